use Rattle.checker_states.proofs.Indexing.{AreMissed}
use Rattle.checker_states.proofs.index.is_found.Given as goal

abbrev pub invariant-loop-steps : goal.invariant-loop-steps
invariant-loop-steps l = AreMissed l.closed l.slots l.home l.state l.cost l.steps
