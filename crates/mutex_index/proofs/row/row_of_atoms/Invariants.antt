use Rattle.std.proofs.Common.{◌≡◌, take}
use Rattle.mutex_index.specs.Places.{places_of}
use Rattle.mutex_index.proofs.row.row_of_atoms.Given as goal

abbrev pub invariant-loop-atom : goal.invariant-loop-atom
invariant-loop-atom l = l.row ≡ places_of l.atoms (take l.atom-index l.more)
