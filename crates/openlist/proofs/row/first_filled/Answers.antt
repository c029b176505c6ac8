use Rattle.std.proofs.Common.{arith, refl}
use Rattle.openlist.proofs.Rows.{empty_more}
use Rattle.openlist.proofs.row.first_filled.Goals as goal

pub loop-place-preserved : goal.loop-place-preserved
loop-place-preserved c = record {
  above = omega arith;
  empty = empty_more c.args.row.now c.args.from c.loop-place.place c.index-row-place.result c.loop-place-test.true
      c.index-row-place.is (c.if-is_empty.ensures.0 refl) c.loop-place.invariant.empty;
}
