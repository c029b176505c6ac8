use Rattle.std.proofs.Common.{[], ap, arith, get_or, length, ◌<◌, ◌≢◌, ◌∙◌}
use Rattle.std.proofs.lemmas.Bool.{false≢true}
use Rattle.std.proofs.lemmas.List.{length-map}
use Rattle.std.proofs.lemmas.Result.{on_err_weaker, on_ok_weaker}
use Rattle.openlist.specs.BucketLists.{spares_of}
use Rattle.openlist.proofs.Rooms.{get_or-spares_of, has_bucket, has_spare, HasRoomNear-push}
use Rattle.openlist.proofs.Rows.{row_entries-put, row_of-set, row_of-set_other}
use Rattle.openlist.proofs.row.push_near.Goals as goal

pub returns-in_err-grow-clause-succeeds : goal.returns-in_err-grow-clause-succeeds
returns-in_err-grow-clause-succeeds c = λ fs room.
    let there : c.args.place < length (spares_of c.args.row.now.items) =
    has_bucket _ fs c.args.place c.requires.near (rw c.requires.value room) in
    absurd (false≢true (c.in_err-grow.ensures.succeeds
    (omega (arith, length-map c.args.row.now.items (λ b. b.spare)))))

pub returns-clause-pushed : goal.returns-clause-pushed
returns-clause-pushed c =
    on_ok_weaker c.push.result
    (row_entries-put c.args.entry _ c.grow.new.row.items c.args.place c.index_mut.result.now c.push.new.self
    c.in_ok-grow.ensures.entries (omega (arith, c.in_ok-grow.ensures.long)) c.index_mut.ensures.value
    c.requires.value)
    c.push.ensures.pushed

pub returns-clause-below : goal.returns-clause-below
returns-clause-below c = λ f below.
    let other : f ≢ c.args.place = omega arith in
    row_of-set_other c.grow.new.row.items c.args.place f c.push.new.self other ∙ c.in_ok-grow.ensures.entries f

pub returns-clause-unchanged : goal.returns-clause-unchanged
returns-clause-unchanged c =
    on_err_weaker c.push.result
    (λ same f.
    ap (λ row. get_or row f [])
    (row_of-set c.grow.new.row.items c.args.place c.index_mut.result.now c.push.new.self c.index_mut.ensures.value same)
    ∙ c.in_ok-grow.ensures.entries f)
    c.push.ensures.unchanged

pub returns-clause-succeeds : goal.returns-clause-succeeds
returns-clause-succeeds c = λ fs room.
    let some = has_spare (spares_of c.args.row.now.items) fs c.args.place c.requires.near (rw c.requires.value room) in
    let same = get_or-spares_of c.grow.new.row.items c.args.place c.index_mut.result.now
    (omega (arith, c.in_ok-grow.ensures.long)) c.index_mut.ensures.value in
    c.push.ensures.succeeds (omega (arith, c.in_ok-grow.ensures.room c.args.place))

pub returns-clause-room : goal.returns-clause-room
returns-clause-room c = λ fs room.
    HasRoomNear-push _ c.grow.new.row.items c.args.place c.index_mut.result.now c.push.new.self fs
    c.in_ok-grow.ensures.room (omega (arith, c.in_ok-grow.ensures.long)) c.index_mut.ensures.value c.push.ensures.room
    (rw c.requires.value room)
