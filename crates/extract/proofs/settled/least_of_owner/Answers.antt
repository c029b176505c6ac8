use Rattle.std.proofs.Common.{◌∙◌, ◌<◌, length, arith}
use Rattle.fdr.specs.Tasks.{ranges}
use Rattle.owner_theory.specs.Owners.{list_at}
use Rattle.owner.specs.Owned.{space_of, least_open}
use Rattle.extract.specs.Pending.{least_message}
use Rattle.extract.proofs.Places.{list_at_read}
use Rattle.extract.proofs.Leasts.{least_step_over}
use Rattle.extract.proofs.Pending.{read_there, small_messages, least_in_memory}
use Rattle.extract.proofs.settled.least_of_owner.Goals as goal

pub least_of_messages-requires-clause-small : goal.least_of_messages-requires-clause-small
least_of_messages-requires-clause-small g c =
    small_messages g.S.Spread.owner (g.F.StateForm.values (ranges c.space.result.now.task)) c.args.owner.now c.loop-to.to c.space.result.now c.outbox.result.now.items c.space.ensures
    (read_there g.F.StateForm.values c.args.owner.now c.loop-to.to c.space.result.now c.outbox.result.now.items c.space.ensures c.outbox.ensures) (c.recall.ensures.messages c.loop-to.to (omega arith))

pub loop-to-preserved : goal.loop-to-preserved
loop-to-preserved g c =
    let below : c.loop-to.to < length c.args.owner.now.outboxes = omega arith in
    c.min-least.ensures
    ∙ least_step_over (least_message c.args.owner.now.space) (least_open (space_of g.S.Spread.owner c.args.owner.now) c.args.owner.now.nodes)
    c.args.owner.now.outboxes c.loop-to.to (list_at c.args.owner.now.outboxes c.loop-to.to) c.loop-to.least c.least_of_messages.result
    below (list_at_read c.args.owner.now.outboxes c.loop-to.to below)
    (c.least_of_messages.ensures
    ∙ least_in_memory (g.F.StateForm.values (ranges c.space.result.now.task)) c.args.owner.now c.loop-to.to c.space.result.now c.outbox.result.now.items c.space.ensures (read_there g.F.StateForm.values c.args.owner.now c.loop-to.to c.space.result.now c.outbox.result.now.items c.space.ensures c.outbox.ensures))
    c.loop-to.invariant
