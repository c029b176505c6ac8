use Rattle.std.proofs.Common.{ℕ, ◌<◌, length, List, All}
use Rattle.cost.specs.Distances.{Distance}
use Rattle.owner_space.specs.Keyed.{IsKeyed, denoted}
use Rattle.owner_reached.specs.Queues.{AreQueued}
use Rattle.owner_reached.proofs.reached.drop_stale.Given as goal

abbrev pub invariant-loop-entry : goal.invariant-loop-entry
invariant-loop-entry g l =
    record {
      stored : All (IsKeyed l.ties) (g.L.OpenList.entries l.list);
      below : All (λ e. (denoted l.ties e).index < length l.table.nodes) (g.L.OpenList.entries l.list);
      queued : (h : List ℕ → Distance) → AreQueued l.ties h l.table.nodes l.table.ever (g.L.OpenList.entries l.fn.list)
          → AreQueued l.ties h l.table.nodes l.table.ever (g.L.OpenList.entries l.list);
    }

abbrev pub decreases-loop-entry : goal.decreases-loop-entry
decreases-loop-entry g l = length (g.L.OpenList.entries l.list)
