use Rattle.std.specs.Prelude.{nat_le, filter}
use Rattle.std.proofs.Common.{refl}
use Rattle.std.proofs.lemmas.List.Sorted.{IsPermutation-append_left, IsPermutation-append_right}
use Rattle.std.proofs.lemmas.Result.{on_err_weaker, on_ok_weaker}
use Rattle.openlist.specs.declared.row.TheConstants.{FAR}
use Rattle.openlist.specs.BucketLists.{has_room_in_fewer, row_entries, row_of}
use Rattle.openlist.proofs.BucketLaws.{entries_beside-same, far_after_push, far_count-from_room, HasRoomFor-far_cons, on_err_from}
use Rattle.openlist.proofs.BucketOrder.{IsPermutation-pushed_beside}
use Rattle.openlist.proofs.bucket_array.BucketArrayOpenList.push.Goals as goal

pub invariant_of-self : goal.invariant_of-self
invariant_of-self c = record {
  near = c.self.invariant.near;
  below = c.self.invariant.below;
  far = far_after_push c.push.result c.args.entry _ _ c.push.ensures.pushed c.push.ensures.unchanged
      c.in_default.ensures.far c.self.invariant.far;
}

pub returns-in_default-clause-pushed : goal.returns-in_default-clause-pushed
returns-in_default-clause-pushed c =
    rw (← c.self.view_is)
    (on_ok_weaker c.push.result (IsPermutation-pushed_beside c.args.entry (row_entries 0 (row_of c.self.inside.row.items)) _ _)
    c.push.ensures.pushed)

pub returns-in_default-clause-unchanged : goal.returns-in_default-clause-unchanged
returns-in_default-clause-unchanged c =
    rw (← c.self.view_is)
    (on_err_weaker c.push.result (IsPermutation-append_right (row_entries 0 (row_of c.self.inside.row.items)) _ _)
    c.push.ensures.unchanged)

pub returns-in_default-clause-succeeds : goal.returns-in_default-clause-succeeds
returns-in_default-clause-succeeds c =
    rw (← c.self.view_is)
    (λ fs room. c.push.ensures.succeeds (filter (λ f. nat_le FAR f) fs)
    (HasRoomFor-far_cons c.self.inside.far c.args.entry.f fs c.in_default.ensures.far room.far))

pub returns-in_default-clause-room : goal.returns-in_default-clause-room
returns-in_default-clause-room c =
    rw (← c.self.view_is)
    (λ fs room.
    let fewer = has_room_in_fewer _ c.args.entry.f fs room in
    record {
      near = fewer.near;
      far = far_count-from_room c.push.new.self fs
          (c.push.ensures.room (filter (λ f. nat_le FAR f) fs)
          (HasRoomFor-far_cons c.self.inside.far c.args.entry.f fs c.in_default.ensures.far room.far));
    })

pub returns-in_err-push_near-clause-unchanged : goal.returns-in_err-push_near-clause-unchanged
returns-in_err-push_near-clause-unchanged c =
    rw (← c.self.view_is)
    (on_err_from c.from_residual.result
    (entries_beside-same _ _ _ _ c.in_err-push_near.ensures.unchanged refl))

pub returns-clause-pushed : goal.returns-clause-pushed
returns-clause-pushed c =
    rw (← c.self.view_is)
    (IsPermutation-append_left c.self.inside.far.entries _ _ c.in_ok-push_near.ensures.pushed)

pub returns-clause-room : goal.returns-clause-room
returns-clause-room c =
    rw (← c.self.view_is)
    (λ fs room. record {
      near = c.in_ok-push_near.ensures.room fs room.near;
      far = (has_room_in_fewer _ c.args.entry.f fs room).far;
    })
