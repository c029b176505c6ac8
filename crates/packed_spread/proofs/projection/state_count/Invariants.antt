use Rattle.std.proofs.Common.{◌≡◌}
use Rattle.std.specs.List.{range_with_len}
use Rattle.fdr.specs.Tasks.{ranges}
use Rattle.packed_spread.specs.Projections as spec
use Rattle.packed_spread.proofs.projection.state_count.Given as goal

abbrev pub invariant-loop-variable : goal.invariant-loop-variable
invariant-loop-variable l = l.classes ≡ spec.classes (ranges l.task) (range_with_len 0 l.variable)
