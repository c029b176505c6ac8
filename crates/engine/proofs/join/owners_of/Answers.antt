use Rattle.std.proofs.Common.{map}
use Rattle.worker.specs.Workers.{WorkerOf}
use Rattle.engine.proofs.Places.{mapped_next}
use Rattle.engine.proofs.join.owners_of.Goals as goal

pub loop-worker-preserved-in_ok-push : goal.loop-worker-preserved-in_ok-push
loop-worker-preserved-in_ok-push g c =
    mapped_next (λ (w : WorkerOf g.row.S.Denot g.row.F.Denot). w.owner) c.loop-worker.owners.items c.push.new.self.items
    (map (λ (w : WorkerOf g.row.S.Denot g.row.F.Denot). w.owner) c.args.workers.items) c.into_parts.result.owner c.in-Some.worker
    c.loop-worker.worker-iterator.rest.items c.next.new.self.rest.items c.in-Some.ensures.steps.0 c.into_parts.ensures.owner
    c.in_ok-push.ensures.items c.loop-worker.invariant

pub loop-worker-preserved : goal.loop-worker-preserved
loop-worker-preserved g c =
    mapped_next (λ (w : WorkerOf g.row.S.Denot g.row.F.Denot). w.owner) c.loop-worker.owners.items c.push.new.self.items
    (map (λ (w : WorkerOf g.row.S.Denot g.row.F.Denot). w.owner) c.args.workers.items) c.into_parts.result.owner c.in-Some.worker
    c.loop-worker.worker-iterator.rest.items c.next.new.self.rest.items c.in-Some.ensures.steps.0 c.into_parts.ensures.owner
    c.in_ok-push.ensures.items c.loop-worker.invariant
