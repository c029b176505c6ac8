use Rattle.std.proofs.Common.{ℕ, ◌∙◌, ap, sym, subst, ◌≡◌, ◌<◌, ◌≤◌, false, length, take, add-one, arith}
use Rattle.owner_theory.specs.Owners.{list_at}
use Rattle.worker.specs.Workers.{WorkerOf}
use Rattle.worker.specs.Turns.{has_congested_link, link_congestion}
use Rattle.worker.proofs.Congesting.{one_long, none_longer}
use Rattle.worker.proofs.worker.Worker.has_congested_link.Goals as goal

pub returns-then-outbox_len-ge-LINK_CONGESTION : goal.returns-then-outbox_len-ge-LINK_CONGESTION
returns-then-outbox_len-ge-LINK_CONGESTION g c =
    let within : c.loop-to.to < length c.self.inside.owner.outboxes = omega (arith, c.self.invariant.2.outs, c.workers-to-end.ensures.outs, ap (λ (w : WorkerOf g.row.S.Denot g.row.F.Denot). length w.outs) c.self.view_is) in
    let many : link_congestion ≤ length (list_at c.self.inside.owner.outboxes c.loop-to.to) = omega (arith, c.outbox_len.ensures) in
    rw (← c.self.view_is) (sym (one_long c.self.inside.owner.outboxes c.loop-to.to within many))

pub loop-to-preserved : goal.loop-to-preserved
loop-to-preserved g c =
    let boxes = ap (λ (w : WorkerOf g.row.S.Denot g.row.F.Denot). w.owner.outboxes) c.self.view_is in
    let within : c.loop-to.to < length c.self.inside.owner.outboxes = omega (arith, c.self.invariant.2.outs, c.workers-to-end.ensures.outs, ap (λ (w : WorkerOf g.row.S.Denot g.row.F.Denot). length w.outs) c.self.view_is) in
    let few : length (list_at c.self.inside.owner.outboxes c.loop-to.to) < link_congestion = omega (arith, c.outbox_len.ensures) in
    let so_far : has_congested_link (take c.loop-to.to c.self.inside.owner.outboxes) ≡ false = ap (λ bs. has_congested_link (take c.loop-to.to bs)) boxes ∙ c.loop-to.invariant in
    rw (add-one, ← boxes) (none_longer c.self.inside.owner.outboxes c.loop-to.to within so_far few)
