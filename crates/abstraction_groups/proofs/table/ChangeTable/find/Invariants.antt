use Rattle.std.proofs.Common.{◌≡◌, ℕ, ◌≤◌, Some, length}
use Rattle.std.specs.Prelude.{slice_get}
use Rattle.abstraction_groups.specs.Tables.{Reaches}
use Rattle.abstraction_groups.proofs.table.ChangeTable.find.Given as goal

abbrev pub invariant-loop-link : goal.invariant-loop-link
invariant-loop-link l = record {
  low : l.link ≤ length l.self.rows;
  left : (g : ℕ) → slice_get l.self.rows g ≡ Some l.changes → Reaches l.links l.link g;
}

abbrev pub decreases-loop-link : goal.decreases-loop-link
decreases-loop-link l = l.link
