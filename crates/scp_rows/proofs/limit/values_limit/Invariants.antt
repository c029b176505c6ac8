use Rattle.std.proofs.Common.{ℕ, ◌<◌, ◌≤◌, ◌^◌}
use Rattle.std.specs.Prelude.{slice_index_or}
use Rattle.cost.specs.Distances.{Infinite, IsWithin}
use Rattle.scp_rows.proofs.limit.values_limit.Given as goal

abbrev pub invariant-loop-index : goal.invariant-loop-index
invariant-loop-index l = ((i : ℕ) → i < l.index → IsWithin l.limit (slice_index_or l.values i Infinite)) × (l.limit ≤ 2 ^ 55)
