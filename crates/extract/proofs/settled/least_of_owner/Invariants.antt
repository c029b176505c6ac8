use Rattle.std.proofs.Common.{◌≡◌, map, take}
use Rattle.cost.specs.Distances.{lesser, least}
use Rattle.owner.specs.Owned.{space_of, least_open}
use Rattle.extract.specs.Pending.{least_message}
use Rattle.extract.proofs.settled.least_of_owner.Given as goal

abbrev pub invariant-loop-to : goal.invariant-loop-to
invariant-loop-to g l =
    l.least ≡ lesser (least_open (space_of g.S.Spread.owner l.owner) l.owner.nodes)
    (least (map (least_message l.owner.space) (take l.to l.owner.outboxes)))
