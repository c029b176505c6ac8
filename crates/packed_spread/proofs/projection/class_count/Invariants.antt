use Rattle.std.proofs.Common.{◌≡◌, ◌*◌, ◌^◌, ◌-◌, drop, fold}
use Rattle.std.specs.Prelude.{slice_index, min}
use Rattle.fdr.specs.Tasks.{ranges}
use Rattle.packed_spread.specs.Projections as spec
use Rattle.packed_spread.proofs.projection.class_count.Given as goal

abbrev pub invariant-loop-variable : goal.invariant-loop-variable
invariant-loop-variable l =
    fold (λ n variable. min (n * slice_index (ranges l.task) variable) (2 ^ 64 - 1)) l.classes (drop l.variable-index l.chosen) ≡ spec.classes (ranges l.task) l.chosen
