use Rattle.closed.proofs.Indexing.{AreMissed}
use Rattle.closed.proofs.index.find.Given as goal

abbrev pub invariant-loop-steps : goal.invariant-loop-steps
invariant-loop-steps g l = AreMissed g.F.PartialEq.eq g.F.Hash.hash_input g.met.F.Eq.laws g.met.F.Hash.respects_eq l.rows l.slots l.form l.steps
