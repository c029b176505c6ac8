use Rattle.std.proofs.Common.{◌≡◌, slice_index, ℕ, ◌+◌, ◌<◌, ◌≤◌, min}
use Rattle.scp_rows.proofs.row.LongRowRow.add.Given as goal

abbrev pub invariant-loop-lane : goal.invariant-loop-lane
invariant-loop-lane l =
    ((k : ℕ) → k < l.lane → slice_index l.self.words k ≡ min (slice_index l.fn.self.words k + slice_index l.other.words k) 9223372036854775809)
    × ((k : ℕ) → l.lane ≤ k → slice_index l.self.words k ≡ slice_index l.fn.self.words k)
