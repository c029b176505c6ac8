use Rattle.std.proofs.Common.{◌≡◌, length}
use Rattle.pdb_regression.proofs.place.Place.new.Given as goal

abbrev pub invariant-loop : goal.invariant-loop
invariant-loop l = length l.lists.items ≡ l.counter
