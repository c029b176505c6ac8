use Rattle.std.proofs.Common.{◌≡◌, ◌<◌, None, fold, length}
use Rattle.std.specs.Prelude.{IfSome}
use Rattle.std.specs.List.{range_with_len}
use Rattle.fdr.specs.Tasks.{ranges}
use Rattle.packed_spread.specs.Projections as spec
use Rattle.packed_spread.proofs.projection.next_variable.Given as goal

abbrev pub invariant-loop-variable : goal.invariant-loop-variable
invariant-loop-variable l =
    record {
      best : l.best ≡ fold (spec.better_of (ranges l.task) l.changes l.chosen) None (range_with_len 0 l.variable);
      below : IfSome l.best (λ b. b < length l.task.value_names);
    }
