use Rattle.std.proofs.Common.{arith, heap_len, refl}
use Rattle.std.proofs.lemmas.List.Sorted.{IsPermutation-append_left, IsPermutation-map}
use Rattle.openlist.specs.BucketLists.{with_f}
use Rattle.openlist.proofs.BucketOrder.{if_none_from, IsFirst-group, IsFirst-heap, IsPermutation-popped_beside, no_entry_in_both}
use Rattle.openlist.proofs.bucket.Bucket.pop.Goals as goal

pub returns-in_err-entry-2-clause-none : goal.returns-in_err-entry-2-clause-none
returns-in_err-entry-2-clause-none c =
    rw (← c.self.view_is)
    (if_none_from c.from_residual-in_err-entry-2.result
    (no_entry_in_both _ _ (heap_len c.self.inside.heap) (omega arith)
    (c.if-is_group_first.ensures.heap_filled refl) c.in_err-entry-2.ensures.variant.1))

pub returns-in_err-entry-2-clause-empty : goal.returns-in_err-entry-2-clause-empty
returns-in_err-entry-2-clause-empty c =
    rw c.in_err-entry-2.ensures.unchanged.0
    (if_none_from c.from_residual-in_err-entry-2.result
    (no_entry_in_both _ _ (heap_len c.self.inside.heap) (omega arith)
    (c.if-is_group_first.ensures.heap_filled refl) c.in_err-entry-2.ensures.variant.1))

pub returns-in_ok-entry-clause-first : goal.returns-in_ok-entry-clause-first
returns-in_ok-entry-clause-first c =
    rw (c.with_f.ensures, ← c.self.view_is)
    (IsFirst-group _ _ _ _ c.in_ok-entry.ensures.first
    (c.if-is_group_first.ensures.group_first refl _ c.in_ok-entry.ensures.first))

pub returns-in_ok-entry-clause-rest : goal.returns-in_ok-entry-clause-rest
returns-in_ok-entry-clause-rest c =
    rw (c.with_f.ensures, ← c.self.view_is)
    (IsPermutation-map (with_f c.args.f) _ _ (IsPermutation-append_left _ _ _ c.in_ok-entry.ensures.rest))

pub returns-in_ok-entry-2-clause-first : goal.returns-in_ok-entry-2-clause-first
returns-in_ok-entry-2-clause-first c =
    let greatest = (c.in_ok-entry-2.ensures.heap_order c.self.invariant).1 in
    rw (c.with_f-else-is_group_first.ensures, ← c.self.view_is)
    (IsFirst-heap _ _ _ _ (c.if-is_group_first.ensures.heap_first refl _ greatest) greatest)

pub returns-in_ok-entry-2-clause-rest : goal.returns-in_ok-entry-2-clause-rest
returns-in_ok-entry-2-clause-rest c =
    rw (c.with_f-else-is_group_first.ensures, ← c.self.view_is)
    (IsPermutation-map (with_f c.args.f) _ _
    (IsPermutation-popped_beside _ _ _ _ (IsPermutation-map (λ r. r.0) _ _ c.in_ok-entry-2.ensures.permutation)))
