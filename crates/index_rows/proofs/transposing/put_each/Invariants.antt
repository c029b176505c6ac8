use Rattle.std.proofs.Common.{◌≡◌, ℕ, ◌<◌, ◌||◌, ◌&&◌, [], length, take}
use Rattle.std.specs.Prelude.{slice_index_or, ◌==◌}
use Rattle.index_rows.specs.Numbers.{has}
use Rattle.index_rows.proofs.transposing.put_each.Given as goal

abbrev pub invariant-loop-place : goal.invariant-loop-place
invariant-loop-place l =
    (p k : ℕ) → p < length l.rows
    → has (slice_index_or l.rows p []) k ≡ (has (slice_index_or l.fn.rows p []) k || (l.number == k && has (take l.place-index l.places) p))
