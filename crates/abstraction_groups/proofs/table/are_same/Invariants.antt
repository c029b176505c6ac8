use Rattle.std.proofs.Common.{◌≡◌, ℕ, ◌<◌, true, get_or}
use Rattle.abstraction_groups.specs.declared.change.Change.{Change}
use Rattle.abstraction_groups.specs.Changes.{same_at}
use Rattle.abstraction_groups.proofs.table.are_same.Given as goal

abbrev pub invariant-loop-place : goal.invariant-loop-place
invariant-loop-place l = (k : ℕ) (d e : Change) → k < l.place → same_at (get_or l.changes k d) (get_or l.others k e) ≡ true
