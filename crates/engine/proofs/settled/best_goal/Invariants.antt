use Rattle.std.proofs.Common.{◌≡◌, map, take}
use Rattle.cost.specs.Distances.{least}
use Rattle.engine.proofs.settled.best_goal.Given as goal

abbrev pub invariant-loop-worker : goal.invariant-loop-worker
invariant-loop-worker g l = l.best ≡ least (map (λ w. w.owner.best) (take l.worker-index l.workers))
