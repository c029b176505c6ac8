use Rattle.worker.specs.Workers.{IsKept}
use Rattle.engine.proofs.Places.{each_more_read, each_all_read}
use Rattle.engine.proofs.drain.recall_each.Goals as goal

pub loop-worker-preserved : goal.loop-worker-preserved
loop-worker-preserved g c =
    each_more_read (λ v w. IsKept g.S.Spread.owner g.F.StateForm.values w) c.args.workers.now.items c.deref-worker-items.result.now c.deref-worker-items.ensures.value
    c.loop-worker.worker-index c.worker-item.result c.loop-worker-test.true c.worker-item.is c.recall.ensures c.loop-worker.invariant

pub returns : goal.returns
returns g c =
    each_all_read (λ v w. IsKept g.S.Spread.owner g.F.StateForm.values w) c.args.workers.now.items c.deref-worker-items.result.now c.deref-worker-items.ensures.value
    c.loop-worker.worker-index c.loop-worker-test.false c.loop-worker.invariant
