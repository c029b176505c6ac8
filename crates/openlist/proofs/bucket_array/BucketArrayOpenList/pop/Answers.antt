use Rattle.std.specs.Prelude.{nat_le, filter}
use Rattle.std.proofs.Common.{arith}
use Rattle.std.proofs.lemmas.List.Sorted.{IsPermutation-append_left}
use Rattle.std.proofs.lemmas.Option.{IfSome_then}
use Rattle.openlist.specs.declared.row.TheConstants.{FAR}
use Rattle.openlist.proofs.BucketLaws.{empty_up_to, far_after_pop, far_count-from_room, HasRoomFor-far, IsFirst-near, IsInOrder-set, only_far, some_both}
use Rattle.openlist.proofs.Rooms.{HasRoomNear-set}
use Rattle.openlist.proofs.Rows.{row_entries-take}
use Rattle.openlist.proofs.bucket_array.BucketArrayOpenList.pop.Goals as goal

pub invariant_of-self : goal.invariant_of-self
invariant_of-self c =
    let empty = empty_up_to _ _ _ _ c.deref.ensures.value c.self.invariant.below c.first_filled-self-inside.ensures.empty in
    IsInOrder-set c.self.inside.row.items c.self.inside.least c.first_filled-self-inside.result c.pop.new.self
    c.self.inside.far empty c.self.invariant

pub returns-then-self-len-clause-first : goal.returns-then-self-len-clause-first
returns-then-self-len-clause-first c =
    let empty = empty_up_to _ _ _ _ c.deref.ensures.value c.self.invariant.below c.first_filled-self-inside.ensures.empty in
    some_both c.pop.result c.pop.ensures.value c.pop.ensures.first
    (λ e of_f first. rw (← c.self.view_is)
    (IsFirst-near e c.self.inside.row.items c.first_filled-self-inside.result c.index_mut.result.now _ (omega arith)
    c.index_mut.ensures.value c.self.invariant.near empty c.self.invariant.far of_f first))

pub returns-then-self-len-clause-rest : goal.returns-then-self-len-clause-rest
returns-then-self-len-clause-rest c =
    rw (← c.self.view_is)
    (IfSome_then c.pop.result c.pop.ensures.rest
    (λ e rest. IsPermutation-append_left c.self.inside.far.entries _ _
    (row_entries-take e c.self.inside.row.items c.first_filled-self-inside.result c.index_mut.result.now c.pop.new.self
    (omega arith) c.index_mut.ensures.value rest)))

pub returns-then-self-len-clause-room : goal.returns-then-self-len-clause-room
returns-then-self-len-clause-room c =
    rw (← c.self.view_is)
    (λ fs room. record {
      near = HasRoomNear-set c.self.inside.row.items c.first_filled-self-inside.result c.index_mut.result.now
          c.pop.new.self fs (omega arith) c.index_mut.ensures.value c.pop.ensures.room room.near;
      far = room.far;
    })

pub invariant_of-self-else-self-len : goal.invariant_of-self-else-self-len
invariant_of-self-else-self-len c = record {
  near = c.self.invariant.near;
  below = empty_up_to _ _ _ _ c.deref.ensures.value c.self.invariant.below c.first_filled-self-inside.ensures.empty;
  far = far_after_pop c.pop-else-self-len.result _ _ c.pop-else-self-len.ensures.rest c.pop-else-self-len.ensures.empty
      c.self.invariant.far;
}

pub returns-else-self-len-clause-first : goal.returns-else-self-len-clause-first
returns-else-self-len-clause-first c =
    let empty = empty_up_to _ _ _ _ c.deref.ensures.value c.self.invariant.below c.first_filled-self-inside.ensures.empty in
    let all = only_far c.self.inside.row.items c.first_filled-self-inside.result c.self.inside.far.entries
    (omega arith) empty in
    rw (← c.self.view_is, all) c.pop-else-self-len.ensures.first

pub returns-else-self-len-clause-rest : goal.returns-else-self-len-clause-rest
returns-else-self-len-clause-rest c =
    let empty = empty_up_to _ _ _ _ c.deref.ensures.value c.self.invariant.below c.first_filled-self-inside.ensures.empty in
    let all = only_far c.self.inside.row.items c.first_filled-self-inside.result c.self.inside.far.entries
    (omega arith) empty in
    let left = only_far c.self.inside.row.items c.first_filled-self-inside.result c.pop-else-self-len.new.self.entries
    (omega arith) empty in
    rw (← c.self.view_is)
    (IfSome_then c.pop-else-self-len.result c.pop-else-self-len.ensures.rest (λ e rest. rw (all, left) rest))

pub returns-else-self-len-clause-none : goal.returns-else-self-len-clause-none
returns-else-self-len-clause-none c =
    let empty = empty_up_to _ _ _ _ c.deref.ensures.value c.self.invariant.below c.first_filled-self-inside.ensures.empty in
    let all = only_far c.self.inside.row.items c.first_filled-self-inside.result c.self.inside.far.entries
    (omega arith) empty in
    rw (← c.self.view_is, all) c.pop-else-self-len.ensures.none

pub returns-else-self-len-clause-empty : goal.returns-else-self-len-clause-empty
returns-else-self-len-clause-empty c =
    let empty = empty_up_to _ _ _ _ c.deref.ensures.value c.self.invariant.below c.first_filled-self-inside.ensures.empty in
    let left = only_far c.self.inside.row.items c.first_filled-self-inside.result c.pop-else-self-len.new.self.entries
    (omega arith) empty in
    rw left c.pop-else-self-len.ensures.empty

pub returns-else-self-len-clause-room : goal.returns-else-self-len-clause-room
returns-else-self-len-clause-room c =
    rw (← c.self.view_is)
    (λ fs room. record {
      near = room.near;
      far = far_count-from_room c.pop-else-self-len.new.self fs
          (c.pop-else-self-len.ensures.room (filter (λ f. nat_le FAR f) fs)
          (HasRoomFor-far c.self.inside.far fs room.far));
    })
