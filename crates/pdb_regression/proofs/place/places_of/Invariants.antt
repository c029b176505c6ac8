use Rattle.std.specs.Prelude.{All}
use Rattle.pdb_regression.specs.Tables.{IsPositionIn, positions_of}
use Rattle.pdb_regression.proofs.place.places_of.Given as goal

abbrev pub invariant-loop-number : goal.invariant-loop-number
invariant-loop-number l = All (IsPositionIn l.digits) (positions_of l.places.items)
