use Rattle.std.proofs.Common.{◌≡◌, ℕ, ◌<◌, ◌||◌, length, take}
use Rattle.index_rows.specs.Numbers.{has}
use Rattle.translate_vars.specs.Flags.{flag_at}
use Rattle.translate_vars.proofs.flags.mark.Given as goal

abbrev pub invariant-loop-place : goal.invariant-loop-place
invariant-loop-place l =
    (k : ℕ) → k < length l.flags → flag_at l.flags k ≡ (flag_at l.fn.flags k || has (take l.place-index l.places) k)
