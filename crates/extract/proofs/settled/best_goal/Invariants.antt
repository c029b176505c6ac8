use Rattle.std.proofs.Common.{◌≡◌, map, take}
use Rattle.cost.specs.Distances.{least}
use Rattle.extract.proofs.settled.best_goal.Given as goal

abbrev pub invariant-loop-owner : goal.invariant-loop-owner
invariant-loop-owner g l = l.best ≡ least (map (λ o. o.best) (take l.owner-index l.owners))
