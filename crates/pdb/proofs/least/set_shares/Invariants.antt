use Rattle.pdb.proofs.Shares.{AreSet}
use Rattle.pdb.proofs.least.set_shares.Given as goal

abbrev pub invariant-loop-operator : goal.invariant-loop-operator
invariant-loop-operator l = AreSet l.operators l.initial.shares l.shares l.operator-index l.share
