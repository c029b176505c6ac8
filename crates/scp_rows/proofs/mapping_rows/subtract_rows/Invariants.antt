use Rattle.std.proofs.Common.{◌≡◌, ℕ, ◌-◌, slice_index, take}
use Rattle.scp_rows.specs.Moves.{sum_at}
use Rattle.scp_rows.proofs.mapping_rows.subtract_rows.Given as goal

abbrev pub invariant-loop-place : goal.invariant-loop-place
invariant-loop-place g l =
    (lane : ℕ) → slice_index (g.R.Row.words l.sums) lane ≡ slice_index (g.R.Row.words l.fn.sums) lane - sum_at l.entered lane l.mappings (take l.place-index l.places)
