use Rattle.std.proofs.Common.{◌≡◌, take}
use Rattle.checker.proofs.naming.places_of.Given as goal

abbrev pub invariant-loop-number : goal.invariant-loop-number
invariant-loop-number l = l.places.items ≡ take l.number-index l.numbers
