use Rattle.std.proofs.Common.{◌≡◌, true, take, All}
use Rattle.reduction.specs.Closing.{IsClosing, Grows, KeepsMarks, is_marked}
use Rattle.reduction.proofs.closing.Closing.mark_all.Given as goal

abbrev pub invariant-loop-operator : goal.invariant-loop-operator
invariant-loop-operator l =
    record {
      closing : IsClosing l.task l.self.asked l.self.changing.items;
      grows : Grows l.fn.self.asked l.self.asked l.fn.self.pending.items l.self.pending.items;
      marks : KeepsMarks l.fn.self.changing.items l.self.changing.items;
      marked : All (λ o. is_marked l.self.changing.items o ≡ true) (take l.operator-index l.operators);
      visited : l.self.visited.items ≡ l.fn.self.visited.items;
    }
