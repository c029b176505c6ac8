use Rattle.std.proofs.Common.{◌≡◌, drop, fold, length}
use Rattle.fdr.specs.Tasks.{ranges}
use Rattle.packed_spread.specs.Projections as spec
use Rattle.packed_spread.proofs.projection.changes_of.Given as goal

abbrev pub invariant-loop-operator : goal.invariant-loop-operator
invariant-loop-operator l =
    record {
      value : fold (λ sums op. spec.with_changes (spec.frequency (ranges l.task) op) sums op.effect) l.changes.items (drop l.operator-index l.task.operators) ≡ spec.changes l.task;
      long : length l.changes.items ≡ length l.task.value_names;
    }
