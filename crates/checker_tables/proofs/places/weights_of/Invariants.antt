use Rattle.std.proofs.Common.{◌≡◌, length}
use Rattle.checker_tables.proofs.places.weights_of.Given as goal

abbrev pub invariant-loop-place : goal.invariant-loop-place
invariant-loop-place l = length l.weights.items ≡ l.place-index
