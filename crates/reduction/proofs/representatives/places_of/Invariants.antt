use Rattle.reduction.proofs.RepresentedLaws.{ArePlaces}
use Rattle.reduction.proofs.representatives.places_of.Given as goal

abbrev pub invariant-loop-place : goal.invariant-loop-place
invariant-loop-place l = ArePlaces l.count l.place l.numbers l.places.items
