use Rattle.std.proofs.Common.{◌∙◌, List, length, map, sym, ap}
use Rattle.std.proofs.lemmas.List.{take_all}
use Rattle.cost.specs.Distances.{least}
use Rattle.owner.specs.Owned.{OwnerOf}
use Rattle.extract.specs.Pending.{least_held}
use Rattle.extract.proofs.Places.{at_read}
use Rattle.extract.proofs.Leasts.{least_step}
use Rattle.worker.specs.Workers.{WorkerOf}
use Rattle.engine.proofs.settled.least_pending.Goals as goal

pub least_of_owner-requires-clause-owners : goal.least_of_owner-requires-clause-owners
least_of_owner-requires-clause-owners g c =
    ap (λ (o : OwnerOf g.row.S.Denot). length o.outboxes) c.owner.ensures ∙ (sym c.recall.ensures.outs ∙ sym c.workers.ensures.outs)

pub least_of_owner-requires-clause-buffer : goal.least_of_owner-requires-clause-buffer
least_of_owner-requires-clause-buffer g c =
    let here = (c.requires.members.each c.loop-worker.worker-index c.worker-item.result
    (at_read c.args.workers.now c.loop-worker.worker-index c.worker-item.result c.loop-worker-test.true c.worker-item.is)).space in
    c.loop-worker.auto.state ∙ (c.requires.buffer
    ∙ sym (ap (λ (o : OwnerOf g.row.S.Denot). length o.space.task.value_names) c.owner.ensures ∙ ap (λ s. length s.task.value_names) here))

pub loop-worker-preserved : goal.loop-worker-preserved
loop-worker-preserved g c =
    c.min-least.ensures
    ∙ least_step (λ w. least_held g.S.Spread.owner w.owner) c.args.workers.now c.loop-worker.worker-index c.worker-item.result
    c.loop-worker.least c.least_of_owner.result c.loop-worker-test.true c.worker-item.is
    (c.least_of_owner.ensures ∙ ap (least_held g.S.Spread.owner) c.owner.ensures) c.loop-worker.invariant

pub returns : goal.returns
returns g c =
    c.loop-worker.invariant
    ∙ ap (λ (ws : List (WorkerOf g.row.S.Denot g.row.F.Denot)). least (map (λ w. least_held g.S.Spread.owner w.owner) ws))
    (take_all c.loop-worker.worker-index c.args.workers.now c.loop-worker-test.false)
