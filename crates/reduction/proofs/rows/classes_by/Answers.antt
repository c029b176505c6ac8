use Rattle.reduction.proofs.RowLaws.{row_step}
use Rattle.reduction.proofs.rows.classes_by.Goals as goal

pub loop-value-preserved : goal.loop-value-preserved
loop-value-preserved c =
    row_step c.args.asked.now c.loop-value.value c.loop-value.next c.loop-value.others c.next_others-others.result c.loop-value.classes.items c.push.new.self.items c.next_class-class.result c.max-next.result c.loop-value.invariant c.next_class-class.ensures c.next_others-others.ensures
    c.in_ok-push.ensures.items c.max-next.ensures
