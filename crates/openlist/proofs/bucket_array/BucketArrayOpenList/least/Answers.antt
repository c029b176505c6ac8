use Rattle.std.proofs.Common.{arith}
use Rattle.std.proofs.lemmas.Option.{IfSome_then}
use Rattle.openlist.proofs.BucketLaws.{Contains-near, empty_up_to, IsFirst-near, only_far, some_both}
use Rattle.openlist.proofs.bucket_array.BucketArrayOpenList.least.Goals as goal

pub returns-then-place-len-clause-member : goal.returns-then-place-len-clause-member
returns-then-place-len-clause-member c =
    IfSome_then c.least.result c.least.ensures.member
    (λ e member. rw (← c.self.view_is)
    (Contains-near e c.self.inside.row.items c.first_filled-place.result c.index.result.now _ (omega arith)
    c.index.ensures member))

pub returns-then-place-len-clause-first : goal.returns-then-place-len-clause-first
returns-then-place-len-clause-first c =
    let empty = empty_up_to _ _ _ _ c.deref.ensures.value c.self.invariant.below c.first_filled-place.ensures.empty in
    some_both c.least.result c.least.ensures.value c.least.ensures.first
    (λ e of_f first. rw (← c.self.view_is)
    (IsFirst-near e c.self.inside.row.items c.first_filled-place.result c.index.result.now _ (omega arith)
    c.index.ensures c.self.invariant.near empty c.self.invariant.far of_f first))

pub returns-else-place-len-clause-member : goal.returns-else-place-len-clause-member
returns-else-place-len-clause-member c =
    let empty = empty_up_to _ _ _ _ c.deref.ensures.value c.self.invariant.below c.first_filled-place.ensures.empty in
    let all = only_far c.self.inside.row.items c.first_filled-place.result c.self.inside.far.entries (omega arith) empty in
    rw (← c.self.view_is, all) c.least-else-place-len.ensures.member

pub returns-else-place-len-clause-first : goal.returns-else-place-len-clause-first
returns-else-place-len-clause-first c =
    let empty = empty_up_to _ _ _ _ c.deref.ensures.value c.self.invariant.below c.first_filled-place.ensures.empty in
    let all = only_far c.self.inside.row.items c.first_filled-place.result c.self.inside.far.entries (omega arith) empty in
    rw (← c.self.view_is, all) c.least-else-place-len.ensures.first

pub returns-else-place-len-clause-none : goal.returns-else-place-len-clause-none
returns-else-place-len-clause-none c =
    let empty = empty_up_to _ _ _ _ c.deref.ensures.value c.self.invariant.below c.first_filled-place.ensures.empty in
    let all = only_far c.self.inside.row.items c.first_filled-place.result c.self.inside.far.entries (omega arith) empty in
    rw (← c.self.view_is, all) c.least-else-place-len.ensures.none
