use Rattle.scp_rows.proofs.TouchLaws.{touched_more, kept_more}
use Rattle.scp_rows.proofs.mapping_rows.touched_by.Goals as goal
use Rattle.scp_rows.proofs.mapping_rows.touched_by.Goals.{then-touches+in_ok-push, else-touches}

pub loop-place-preserved : goal.loop-place-preserved
loop-place-preserved g c = elim c.if-touches.branch [
  | then-touches+in_ok-push w ↦
      rw (w.touched-is, w.in_ok-push.ensures.items) (touched_more c.args.mappings.now c.args.operator c.loop-place.place c.loop-place.touched.items c.loop-place.invariant)
  | else-touches w ↦
      rw w.touched-is (kept_more c.args.mappings.now c.args.operator c.loop-place.place c.loop-place.touched.items c.loop-place.invariant
      c.index-mappings-place.result c.loop-place-test.true c.index-mappings-place.is (c.touches.ensures w.if-touches.false))
]
