use Rattle.std.proofs.Common.{◌≡◌, ℕ, ◌<◌, ◌||◌, false, length, take}
use Rattle.std.specs.Prelude.{slice_index_or}
use Rattle.index_rows.specs.Numbers.{has}
use Rattle.mutex_index.proofs.build.mark.Given as goal

abbrev pub invariant-loop-place : goal.invariant-loop-place
invariant-loop-place l =
    (p : ℕ) → p < length l.flags → slice_index_or l.flags p false ≡ (slice_index_or l.fn.flags p false || has (take l.place-index l.places) p)
