use Rattle.std.proofs.Common.{◌≡◌, map, take}
use Rattle.cost.specs.Distances.{lesser, least}
use Rattle.fdr.specs.Tasks.{ranges}
use Rattle.closed.specs.Tables.{message_of}
use Rattle.extract.specs.Pending.{f_at, least_held}
use Rattle.extract.proofs.settled.least_pending.Given as goal

abbrev pub invariant-loop-owner : goal.invariant-loop-owner
invariant-loop-owner g l = l.least ≡ least (map (least_held g.S.Spread.owner) (take l.owner-index l.owners))

abbrev pub invariant-loop-queue : goal.invariant-loop-queue
invariant-loop-queue g l =
    l.least ≡ lesser (least (map (least_held g.S.Spread.owner) l.owners))
    (least (map (λ q. least (map (λ p. f_at l.space (message_of (g.F.StateForm.values (ranges l.space.task)) p.message)) q.items)) (take l.queue-index l.left)))
