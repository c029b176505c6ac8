use Rattle.std.proofs.Common.{◌≡◌, ℕ, ◌<◌, ◌&&◌, [], length}
use Rattle.std.specs.Prelude.{slice_index_or, nat_lt}
use Rattle.index_rows.specs.Numbers.{has}
use Rattle.index_rows.proofs.transposing.columns_of.Given as goal

abbrev pub invariant-loop-number : goal.invariant-loop-number
invariant-loop-number l =
    record {
      count : length l.columns.items ≡ l.count;
      entries : (p k : ℕ) → p < l.count → has (slice_index_or l.columns.items p []) k ≡ (nat_lt k l.number && has (slice_index_or l.rows k []) p);
    }
