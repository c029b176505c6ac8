use Rattle.pdb.proofs.Shares.{AreLess}
use Rattle.pdb.proofs.least.subtract_share.Given as goal

abbrev pub invariant-loop-operator : goal.invariant-loop-operator
invariant-loop-operator l = AreLess l.operators l.initial.left l.left l.operator-index l.share
