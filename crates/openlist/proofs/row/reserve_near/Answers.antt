use Rattle.std.proofs.Common.{[], ap, arith, get_or, ◌∙◌, ◌<◌, length}
use Rattle.openlist.specs.declared.row.TheConstants.{FAR}
use Rattle.openlist.proofs.Rooms.{asked-more, HasRoomNear-far, HasRoomNear-more}
use Rattle.openlist.proofs.Rows.{row_of-set}
use Rattle.openlist.proofs.row.reserve_near.Goals as goal
use Rattle.openlist.proofs.row.reserve_near.Goals.{in-Some+in_ok-reserve_one_more, in_default}

pub returns-in_err-reserve_one_more-clause-entries : goal.returns-in_err-reserve_one_more-clause-entries
returns-in_err-reserve_one_more-clause-entries c f =
    ap (λ row. get_or row f [])
    (row_of-set c.loop-f.row.items c.in-Some.place c.index_mut.result.now c.reserve_one_more.new.self
    c.index_mut.ensures.value c.in_err-reserve_one_more.ensures.entries
    ∙ c.loop-f.invariant.entries)

pub loop-f-preserved : goal.loop-f-preserved
loop-f-preserved c =
    let fs = c.args.fs.now in
    let k = c.loop-f.f-index in
    let buckets = c.loop-f.row.items in
    elim c.match-bucket_of.branch [
      | in-Some+in_ok-reserve_one_more w ↦
          (let old = w.index_mut.result.now in
          let new = w.reserve_one_more.new.self in
          let place = w.in-Some.place in
          let near : get_or fs k 0 < FAR = omega (arith, w.in-Some.ensures.near, w.in-Some.ensures.below) in
          let there : place < length buckets =
          omega (arith, w.in-Some.ensures.near, c.requires k 0 c.loop-f-test.true near) in
          let enough = asked-more buckets fs k place old c.loop-f-test.true (omega arith) there w.in-Some.ensures.below
          w.index_mut.ensures.value c.loop-f.invariant.asked in
          record {
            entries = rw w.row-is
                (row_of-set buckets place old new w.index_mut.ensures.value w.in_ok-reserve_one_more.ensures.entries
                ∙ c.loop-f.invariant.entries);
            len = rw w.row-is c.loop-f.invariant.len;
            asked = rw w.row-is
                (HasRoomNear-more (λ b. b.asked) buckets fs k place new c.loop-f-test.true w.in-Some.ensures.near there
                (omega arith) c.loop-f.invariant.asked);
            room = rw w.row-is
                (HasRoomNear-more (λ b. b.spare) buckets fs k place new c.loop-f-test.true w.in-Some.ensures.near there
                (omega (arith, w.in_ok-reserve_one_more.ensures.room)) c.loop-f.invariant.room);
          })
      | in_default w ↦ record {
        entries = rw w.row-is c.loop-f.invariant.entries;
        len = rw w.row-is c.loop-f.invariant.len;
        asked = rw w.row-is (HasRoomNear-far _ fs k c.loop-f-test.true w.in_default.ensures.far c.loop-f.invariant.asked);
        room = rw w.row-is (HasRoomNear-far _ fs k c.loop-f-test.true w.in_default.ensures.far c.loop-f.invariant.room);
      }
    ]
