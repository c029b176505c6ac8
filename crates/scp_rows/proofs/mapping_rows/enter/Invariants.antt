use Rattle.std.proofs.Common.{◌≡◌, ◌<◌, ℕ, length, min, get_or, slice_index, take}
use Rattle.scp_rows.specs.Rows.{MappingRows, abstraction_of, lane_sum}
use Rattle.scp_rows.proofs.mapping_rows.enter.Given as goal

abbrev pub invariant-loop-place : goal.invariant-loop-place
invariant-loop-place g l = record {
  as_long : length l.indices ≡ length l.mappings;
  each : (k : ℕ) (d : MappingRows) → k < l.place → slice_index l.indices k ≡ (abstraction_of (get_or l.mappings k d)).index l.state;
  sums : (lane : ℕ) → slice_index (g.R.Row.words l.sums) lane ≡ min (lane_sum l.state lane (take l.place l.mappings)) g.R.Row.most;
}
