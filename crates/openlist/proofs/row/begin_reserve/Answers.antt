use Rattle.std.proofs.Common.{[], ap, arith, get_or, ◌∙◌}
use Rattle.std.proofs.lemmas.List.{take_all}
use Rattle.openlist.proofs.Rooms.{HasBuckets-more}
use Rattle.openlist.proofs.Rows.{row_of-set}
use Rattle.openlist.proofs.row.begin_reserve.Goals as goal
use Rattle.openlist.proofs.row.begin_reserve.Goals.{in-Some+in_ok-grow, in_default}

pub loop-f-preserved : goal.loop-f-preserved
loop-f-preserved c =
    elim c.match-bucket_of.branch [
      | in-Some+in_ok-grow w ↦ record {
        entries = λ f. rw w.row-is
            (ap (λ row. get_or row f [])
            (row_of-set w.grow.new.row.items w.in-Some.place w.index_mut.result.now w.begin_reserve.new.self
            w.index_mut.ensures.value w.begin_reserve.ensures.entries)
            ∙ w.in_ok-grow.ensures.entries f ∙ c.loop-f.invariant.entries f);
        bound = rw w.row-is (omega (arith, w.in_ok-grow.ensures.bound, w.in-Some.ensures.below));
        long = rw w.row-is
            (HasBuckets-more c.args.fs.now c.loop-f.f-index _ _ c.loop-f-test.true w.in_ok-grow.ensures.len
            (λ near. omega (arith, w.in_ok-grow.ensures.long, w.in-Some.ensures.near)) c.loop-f.invariant.long);
      }
      | in_default w ↦ record {
        entries = rw w.row-is c.loop-f.invariant.entries;
        bound = rw w.row-is c.loop-f.invariant.bound;
        long = rw w.row-is
            (HasBuckets-more c.args.fs.now c.loop-f.f-index _ _ c.loop-f-test.true (omega arith)
            (λ near. absurd (omega (arith, w.in_default.ensures.far))) c.loop-f.invariant.long);
      }
    ]

pub returns-clause-long : goal.returns-clause-long
returns-clause-long c =
    let all = take_all c.loop-f.f-index c.args.fs.now c.loop-f-test.false in
    rw all at c.loop-f.invariant.long
