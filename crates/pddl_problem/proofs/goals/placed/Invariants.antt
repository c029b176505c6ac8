use Rattle.std.proofs.Common.{◌≡◌, ◌++◌, drop, length}
use Rattle.pddl_problem.specs.Goals as spec
use Rattle.pddl_problem.proofs.goals.placed.Given as goal

abbrev pub invariant-loop-place : goal.invariant-loop-place
invariant-loop-place l = l.literals.items ++ spec.placed (drop (length l.yielded) l.places) (drop (length l.yielded) l.conditions) ≡ spec.placed l.places l.conditions
