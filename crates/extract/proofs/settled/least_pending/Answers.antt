use Rattle.std.proofs.Common.{◌∙◌, length, map, sym, ap}
use Rattle.std.proofs.lemmas.List.{take_all}
use Rattle.cost.specs.Distances.{lesser, least}
use Rattle.fdr.specs.Tasks.{ranges}
use Rattle.closed.specs.Tables.{message_of}
use Rattle.extract.specs.Pending.{f_at, least_held}
use Rattle.extract.proofs.Places.{at_read}
use Rattle.extract.proofs.Leasts.{least_step, least_step_over}
use Rattle.extract.proofs.Pending.{least_underway, small_packets}
use Rattle.extract.proofs.settled.least_pending.Goals as goal

pub least_of_owner-requires-clause-owners : goal.least_of_owner-requires-clause-owners
least_of_owner-requires-clause-owners g c =
    (c.requires.form.each c.loop-owner.owner-index c.owner-item.result
    (at_read c.args.owners.now c.loop-owner.owner-index c.owner-item.result c.loop-owner-test.true c.owner-item.is)).2

pub least_of_owner-requires-clause-buffer : goal.least_of_owner-requires-clause-buffer
least_of_owner-requires-clause-buffer g c =
    let here = c.requires.form.each c.loop-owner.owner-index c.owner-item.result
    (at_read c.args.owners.now c.loop-owner.owner-index c.owner-item.result c.loop-owner-test.true c.owner-item.is) in
    c.loop-owner.auto.state ∙ c.requires.buffer ∙ sym (ap (λ s. length s.task.value_names) here.0)

pub loop-owner-preserved : goal.loop-owner-preserved
loop-owner-preserved g c =
    c.min-least.ensures
    ∙ least_step (least_held g.S.Spread.owner) c.args.owners.now c.loop-owner.owner-index c.owner-item.result c.loop-owner.least
    c.least_of_owner.result c.loop-owner-test.true c.owner-item.is c.least_of_owner.ensures c.loop-owner.invariant

pub least_of_packets-requires-clause-small : goal.least_of_packets-requires-clause-small
least_of_packets-requires-clause-small g c =
    small_packets (g.F.StateForm.values (ranges c.args.space.now.task)) c.args.space.now c.args.left.now c.loop-queue.queue-index c.queue-item.result c.loop-queue-test.true c.queue-item.is
    c.requires.form.left

pub loop-queue-preserved : goal.loop-queue-preserved
loop-queue-preserved g c =
    c.min-least-in-loop-queue.ensures
    ∙ least_step_over (λ q. least (map (λ p. f_at c.args.space.now (message_of (g.F.StateForm.values (ranges c.args.space.now.task)) p.message)) q.items))
    (least (map (least_held g.S.Spread.owner) c.args.owners.now)) c.args.left.now c.loop-queue.queue-index c.queue-item.result
    c.loop-queue.least c.least_of_packets.result c.loop-queue-test.true c.queue-item.is c.least_of_packets.ensures
    c.loop-queue.invariant

pub returns : goal.returns
returns g c =
    let all = take_all c.loop-queue.queue-index c.args.left.now c.loop-queue-test.false in
    c.loop-queue.invariant
    ∙ ap (λ queues. lesser (least (map (least_held g.S.Spread.owner) c.args.owners.now))
    (least (map (λ q. least (map (λ p. f_at c.args.space.now (message_of (g.F.StateForm.values (ranges c.args.space.now.task)) p.message)) q.items)) queues))) all
    ∙ ap (lesser (least (map (least_held g.S.Spread.owner) c.args.owners.now))) (sym (least_underway (g.F.StateForm.values (ranges c.args.space.now.task)) c.args.space.now c.args.left.now))
