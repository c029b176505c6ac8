use Rattle.std.proofs.Common.{◌≡◌, ◌<◌, length}
use Rattle.std.specs.Prelude.{All}
use Rattle.fdr.specs.Tasks.{ranges}
use Rattle.packed_spread.specs.Projections as spec
use Rattle.packed_spread.proofs.projection.projection_of.Given as goal

abbrev pub invariant-loop : goal.invariant-loop
invariant-loop l =
    record {
      chosen : l.chosen.items ≡ spec.chosen_in l.counter (ranges l.task) l.changes.items;
      below : All (λ v. v < length l.task.value_names) l.chosen.items;
    }
