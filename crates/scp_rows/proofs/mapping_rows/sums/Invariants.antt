use Rattle.std.proofs.Common.{◌≡◌, ℕ, min, slice_index, take}
use Rattle.scp_rows.specs.Rows.{lane_sum}
use Rattle.scp_rows.proofs.mapping_rows.sums.Given as goal

abbrev pub invariant-loop-mapping : goal.invariant-loop-mapping
invariant-loop-mapping g l =
    (lane : ℕ) → slice_index (g.R.Row.words l.sums) lane ≡ min (lane_sum l.state lane (take l.mapping-index l.mappings)) g.R.Row.most
