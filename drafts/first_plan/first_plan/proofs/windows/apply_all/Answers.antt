use Rattle.first_plan.proofs.Successors.{successor_or_same}
use Rattle.first_plan.proofs.windows.apply_all.Goals as goal

pub loop-operator-preserved : goal.loop-operator-preserved
loop-operator-preserved c =
    let before = c.loop-operator.invariant in
    rw c.apply.ensures.state (successor_or_same c.args.task.now c.recall.ensures.task _ _ before)
