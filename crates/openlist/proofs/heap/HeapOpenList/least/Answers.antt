use Rattle.openlist.proofs.Order.{IsFirst-upper_bound}
use Rattle.openlist.proofs.heap.HeapOpenList.least.Goals as goal

pub returns-clause-first : goal.returns-clause-first
returns-clause-first c = rw (← c.self.view_is) (IsFirst-upper_bound _ _ (c.in_ok-entry.ensures.greatest c.self.invariant))
