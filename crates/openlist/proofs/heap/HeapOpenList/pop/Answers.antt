use Rattle.std.proofs.lemmas.List.Sorted.{IsPermutation-map}
use Rattle.openlist.proofs.Order.{IsFirst-upper_bound}
use Rattle.openlist.proofs.heap.HeapOpenList.pop.Goals as goal

pub returns-clause-first : goal.returns-clause-first
returns-clause-first c = rw (← c.self.view_is) (IsFirst-upper_bound _ _ (c.in_ok-entry.ensures.heap_order c.self.invariant).1)

pub returns-clause-rest : goal.returns-clause-rest
returns-clause-rest c = rw (← c.self.view_is) (IsPermutation-map (λ r. r.0) _ _ c.in_ok-entry.ensures.permutation)
