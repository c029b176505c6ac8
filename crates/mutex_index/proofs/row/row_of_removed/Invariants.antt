use Rattle.std.proofs.Common.{◌≡◌, take}
use Rattle.mutex_index.specs.Places.{removed_places}
use Rattle.mutex_index.proofs.row.row_of_removed.Given as goal

abbrev pub invariant-loop-atom : goal.invariant-loop-atom
invariant-loop-atom l = l.row ≡ removed_places l.atoms l.adds (take l.atom-index l.deletes)
