use Rattle.std.proofs.Common.{◌≡◌, take}
use Rattle.mutex_index.specs.Places.{literal_places}
use Rattle.mutex_index.proofs.row.row_of_literals.Given as goal

abbrev pub invariant-loop-literal : goal.invariant-loop-literal
invariant-loop-literal l = l.row ≡ literal_places l.atoms l.sign (take l.literal-index l.literals)
