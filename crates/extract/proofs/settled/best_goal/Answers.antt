use Rattle.std.proofs.Common.{◌∙◌}
use Rattle.extract.proofs.Leasts.{least_step}
use Rattle.extract.proofs.settled.best_goal.Goals as goal

pub loop-owner-preserved : goal.loop-owner-preserved
loop-owner-preserved g c =
    c.min-best.ensures
    ∙ least_step (λ o. o.best) c.args.owners.now c.loop-owner.owner-index c.owner-item.result c.loop-owner.best c.best_goal.result
    c.loop-owner-test.true c.owner-item.is c.best_goal.ensures c.loop-owner.invariant
