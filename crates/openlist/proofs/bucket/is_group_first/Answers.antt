use Rattle.std.proofs.Common.{◌<◌, arith, heap_len, refl, sym, ◌∙◌}
use Rattle.openlist.proofs.BucketOrder.{comes_before-le, comes_before-other, group_before_heap, heap_before_group}
use Rattle.openlist.proofs.bucket.is_group_first.Goals as goal

pub returns-in-Some-peek-clause-group_first : goal.returns-in-Some-peek-clause-group_first
returns-in-Some-peek-clause-group_first c = λ yes e before.
    let first = c.in-Some.first in
    let least = c.in-Some-peek.field-0.now in
    group_before_heap e first least _ _ before c.in-Some.ensures.member
    (sym (comes_before-le first least.0) ∙ sym c.le.ensures ∙ yes) (c.in-Some-peek.ensures.greatest c.requires)

pub returns-in-Some-peek-clause-heap_first : goal.returns-in-Some-peek-clause-heap_first
returns-in-Some-peek-clause-heap_first c = λ no r greatest.
    let first = c.in-Some.first in
    let least = c.in-Some-peek.field-0.now in
    let filled : 0 < heap_len c.args.heap.now = c.in-Some-peek.ensures.variant.0 refl in
    heap_before_group first least r _ _ c.in-Some.ensures.first c.in-Some-peek.ensures.lookup (omega arith)
    (comes_before-other first least.0 (sym (comes_before-le first least.0) ∙ sym c.le.ensures ∙ no)) greatest
