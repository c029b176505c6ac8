use Rattle.std.proofs.Common.{◌≡◌, length}
use Rattle.std.specs.List.{AllByRecursion}
use Rattle.test_tables.proofs.unchanged_states.has_closed_violation.Given as goal

abbrev pub invariant-loop-cost : goal.invariant-loop-cost
invariant-loop-cost g l = AllByRecursion (λ e. length e.state ≡ 2) l.closed
