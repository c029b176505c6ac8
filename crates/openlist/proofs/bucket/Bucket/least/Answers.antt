use Rattle.std.proofs.Common.{◌<◌, arith, heap_len, refl}
use Rattle.openlist.proofs.BucketOrder.{if_none_from, Contains-heap, IsFirst-group, IsFirst-heap, no_entry_in_both}
use Rattle.openlist.proofs.bucket.Bucket.least.Goals as goal

pub returns-in_err-entry-2-clause-none : goal.returns-in_err-entry-2-clause-none
returns-in_err-entry-2-clause-none c =
    rw (← c.self.view_is)
    (if_none_from c.from_residual-in_err-entry-2.result
    (no_entry_in_both _ _ (heap_len c.self.inside.heap) (omega arith)
    (c.if-is_group_first.ensures.heap_filled refl) c.in_err-entry-2.ensures.variant.1))

pub returns-in_ok-entry-clause-first : goal.returns-in_ok-entry-clause-first
returns-in_ok-entry-clause-first c =
    rw (c.with_f.ensures, ← c.self.view_is)
    (IsFirst-group _ _ _ _ c.in_ok-entry.ensures.first
    (c.if-is_group_first.ensures.group_first refl _ c.in_ok-entry.ensures.first))

pub returns-in_ok-entry-2-clause-member : goal.returns-in_ok-entry-2-clause-member
returns-in_ok-entry-2-clause-member c =
    let filled : 0 < heap_len c.self.inside.heap = c.in_ok-entry-2.ensures.variant.0 refl in
    rw (c.with_f-else-is_group_first.ensures, ← c.self.view_is)
    (Contains-heap _ _ _ _ (omega arith) c.in_ok-entry-2.ensures.lookup)

pub returns-in_ok-entry-2-clause-first : goal.returns-in_ok-entry-2-clause-first
returns-in_ok-entry-2-clause-first c =
    let greatest = c.in_ok-entry-2.ensures.greatest c.self.invariant in
    rw (c.with_f-else-is_group_first.ensures, ← c.self.view_is)
    (IsFirst-heap _ _ _ _ (c.if-is_group_first.ensures.heap_first refl _ greatest) greatest)
