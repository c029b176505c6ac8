use Rattle.std.proofs.Common.{◌≡◌, ℕ, ◌+◌, min, slice_index, take}
use Rattle.scp_rows.specs.Moves.{sum_at}
use Rattle.scp_rows.proofs.mapping_rows.add_rows.Given as goal

abbrev pub invariant-loop-place : goal.invariant-loop-place
invariant-loop-place g l =
    (lane : ℕ) → slice_index (g.R.Row.words l.sums) lane ≡ min (slice_index (g.R.Row.words l.fn.sums) lane + sum_at l.state lane l.mappings (take l.place-index l.places)) g.R.Row.most
