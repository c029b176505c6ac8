use Rattle.std.proofs.Common.{◌≡◌, ℕ, ◌<◌, ◌&&◌, [], length}
use Rattle.std.specs.Prelude.{slice_index_or, nat_lt}
use Rattle.index_rows.specs.Numbers.{has}
use Rattle.mutex.specs.Steps.{is_row_place}
use Rattle.mutex.proofs.instances.rows_by_predicate.Given as goal

abbrev pub invariant-loop-place : goal.invariant-loop-place
invariant-loop-place l =
    record {
      count : length l.rows.items ≡ length l.index.task.arities;
      entries : (q k : ℕ) → q < length l.index.task.arities → has (slice_index_or l.rows.items q []) k ≡ (nat_lt k l.place && is_row_place l.index q k);
    }
