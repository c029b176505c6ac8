use Rattle.slots.specs.Slots.{links_of, AreTaken}
use Rattle.slots.proofs.probing.steps_to_empty.Given as goal

abbrev pub invariant-loop-steps : goal.invariant-loop-steps
invariant-loop-steps g l = AreTaken (links_of l.slots) l.home l.steps
