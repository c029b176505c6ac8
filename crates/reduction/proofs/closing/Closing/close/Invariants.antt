use Rattle.std.proofs.Common.{◌+◌, length}
use Rattle.reduction.specs.Facts.{Includes, is_in, absent}
use Rattle.reduction.specs.Closing.{IsClosing, AreVisited, AreOpen}
use Rattle.reduction.proofs.closing.Closing.close.Given as goal

abbrev pub invariant-loop-fact : goal.invariant-loop-fact
invariant-loop-fact l =
    record {
      closing : IsClosing l.task l.self.asked l.self.changing.items;
      asked : Includes (is_in l.self.asked) (is_in l.fn.self.asked);
      visited : AreVisited l.task l.self.changing.items l.self.visited.items;
      pending : AreOpen l.task l.self.asked l.self.changing.items l.self.pending.items;
    }

abbrev pub decreases-loop-fact : goal.decreases-loop-fact
decreases-loop-fact l = absent l.self.asked + length l.self.pending.items
