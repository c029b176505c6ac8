use Rattle.std.proofs.Common.{◌≡◌, slice_index, ℕ, ◌-◌, ◌<◌, ◌≤◌}
use Rattle.scp_rows.proofs.row.MiddleRowRow.subtract.Given as goal

abbrev pub invariant-loop-lane : goal.invariant-loop-lane
invariant-loop-lane l =
    ((k : ℕ) → k < l.lane → slice_index l.self.words k ≡ slice_index l.fn.self.words k - slice_index l.other.words k)
    × ((k : ℕ) → l.lane ≤ k → slice_index l.self.words k ≡ slice_index l.fn.self.words k)
