use Rattle.std.proofs.Common.{◌≡◌, ℕ, drop, length}
use Rattle.pddl_problem.specs.Initial.{values_of}
use Rattle.pddl.specs.Sums as spec
use Rattle.pddl.proofs.sums.greatest_values.Given as goal

abbrev pub invariant-loop-function : goal.invariant-loop-function
invariant-loop-function l =
    (number : ℕ) → spec.greatest_value number (values_of (drop (length l.yielded) l.values.entries)) (spec.known_value l.greatest.entries number)
    ≡ spec.greatest_value number (values_of l.values.entries) 0
