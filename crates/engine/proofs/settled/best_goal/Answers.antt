use Rattle.std.proofs.Common.{◌∙◌, List, map, ap}
use Rattle.std.proofs.lemmas.List.{take_all}
use Rattle.cost.specs.Distances.{least}
use Rattle.extract.proofs.Leasts.{least_step}
use Rattle.worker.specs.Workers.{WorkerOf}
use Rattle.engine.proofs.settled.best_goal.Goals as goal

pub loop-worker-preserved : goal.loop-worker-preserved
loop-worker-preserved g c =
    c.min-best.ensures
    ∙ least_step (λ w. w.owner.best) c.args.workers.now c.loop-worker.worker-index c.worker-item.result c.loop-worker.best c.best_goal.result
    c.loop-worker-test.true c.worker-item.is c.best_goal.ensures c.loop-worker.invariant

pub returns : goal.returns
returns g c =
    c.loop-worker.invariant
    ∙ ap (λ (ws : List (WorkerOf g.row.S.Denot g.row.F.Denot)). least (map (λ w. w.owner.best) ws))
    (take_all c.loop-worker.worker-index c.args.workers.now c.loop-worker-test.false)
