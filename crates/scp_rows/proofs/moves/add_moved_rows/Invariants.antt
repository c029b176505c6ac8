use Rattle.std.proofs.Common.{◌≡◌, ℕ, ◌+◌, List, min, slice_index, take}
use Rattle.scp_rows.specs.Moves.{StepsTo, places_of, sum_at}
use Rattle.scp_rows.proofs.moves.add_moved_rows.Given as goal

abbrev pub invariant-loop-step : goal.invariant-loop-step
invariant-loop-step g l =
    (next : List ℕ) → StepsTo l.mappings l.entered l.operator next → (lane : ℕ) →
    slice_index (g.R.Row.words l.sums) lane ≡ min (slice_index (g.R.Row.words l.fn.sums) lane + sum_at next lane l.mappings (places_of (take l.step-index l.moves))) g.R.Row.most
