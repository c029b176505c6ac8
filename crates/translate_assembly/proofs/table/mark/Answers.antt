use Rattle.translate_assembly.proofs.SlotLaws.{mark_more}
use Rattle.translate_assembly.proofs.table.mark.Goals as goal

pub loop-value-preserved : goal.loop-value-preserved
loop-value-preserved c = λ q.
    mark_more c.args.places.now c.loop-value.value c.args.variable _ q _ _ _ c.loop-value-test.true (c.loop-value.invariant q) (c.mark_one.ensures q)
