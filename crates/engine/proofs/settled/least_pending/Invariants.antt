use Rattle.std.proofs.Common.{◌≡◌, map, take}
use Rattle.cost.specs.Distances.{least}
use Rattle.extract.specs.Pending.{least_held}
use Rattle.engine.proofs.settled.least_pending.Given as goal

abbrev pub invariant-loop-worker : goal.invariant-loop-worker
invariant-loop-worker g l = l.least ≡ least (map (λ w. least_held g.S.Spread.owner w.owner) (take l.worker-index l.workers))
