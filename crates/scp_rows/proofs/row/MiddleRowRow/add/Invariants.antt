use Rattle.std.proofs.Common.{◌≡◌, slice_index, ℕ, ◌+◌, ◌<◌, ◌≤◌, min}
use Rattle.scp_rows.proofs.row.MiddleRowRow.add.Given as goal

abbrev pub invariant-loop-lane : goal.invariant-loop-lane
invariant-loop-lane l =
    ((k : ℕ) → k < l.lane → slice_index l.self.words k ≡ min (slice_index l.fn.self.words k + slice_index l.other.words k) 4294967295)
    × ((k : ℕ) → l.lane ≤ k → slice_index l.self.words k ≡ slice_index l.fn.self.words k)
