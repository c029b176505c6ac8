use Rattle.std.proofs.Common.{◌<◌, ap, sym, subst, length, ◌∙◌, arith}
use Rattle.owner_theory.specs.Owners.{list_at}
use Rattle.owner_theory.specs.Worlds.{is_empty}
use Rattle.owner_outboxes.specs.Outboxes.{boxes_of}
use Rattle.owner_outboxes.proofs.Boxing.{box_empty, count_posted, count_small}
use Rattle.owner_outboxes.proofs.Using.{posted_first, posted_more}
use Rattle.owner_outboxes.proofs.queues.Outboxes.post.Goals as goal

pub overflow_add-self : goal.overflow_add-self
overflow_add-self g c =
    let lt = subst (λ bs. c.args.to < length bs) (sym c.self.view_is) c.requires in
    let more = count_posted (boxes_of c.self.inside.queues.items) (boxes_of c.push_last.new.queues.items) c.args.to c.args.message
    lt c.in_ok-push_last.ensures.posted in
    let few = count_small c.push_last.new.queues.items
    (omega (arith, c.push_last.new.queues.ok.0, c.push_last.new.queues.ok.1, c.push_last.new.queues.small)) in
    omega (arith, more, few, c.self.invariant.1)

pub invariant_of-self-then-is_first : goal.invariant_of-self-then-is_first
invariant_of-self-then-is_first g c =
    let old = boxes_of c.self.inside.queues.items in
    let new = boxes_of c.push_last.new.queues.items in
    let m = c.args.message in
    let lt : c.args.to < length old = subst (λ bs. c.args.to < length bs) (sym c.self.view_is) c.requires in
    let more = count_posted old new c.args.to m lt c.in_ok-push_last.ensures.posted in (
      posted_first old new c.args.to m c.self.inside.in_use lt c.in_ok-push_last.ensures.posted c.self.invariant.0
          (ap (λ bs. is_empty (list_at bs c.args.to)) c.self.view_is
          ∙ (ap is_empty (sym c.outbox.ensures) ∙ (sym (box_empty c.outbox.result.now) ∙ (sym c.is_empty-is_first.ensures ∙ c.if-is_first.true)))),
      omega (arith, more, c.self.invariant.1),
    )

pub invariant_of-self-else-is_first : goal.invariant_of-self-else-is_first
invariant_of-self-else-is_first g c =
    let old = boxes_of c.self.inside.queues.items in
    let new = boxes_of c.push_last.new.queues.items in
    let m = c.args.message in
    let lt : c.args.to < length old = subst (λ bs. c.args.to < length bs) (sym c.self.view_is) c.requires in
    let more = count_posted old new c.args.to m lt c.in_ok-push_last.ensures.posted in (
      posted_more old new c.args.to m c.self.inside.in_use lt c.in_ok-push_last.ensures.posted c.self.invariant.0
          (ap (λ bs. is_empty (list_at bs c.args.to)) c.self.view_is
          ∙ (ap is_empty (sym c.outbox.ensures) ∙ (sym (box_empty c.outbox.result.now) ∙ (sym c.is_empty-is_first.ensures ∙ c.if-is_first.false)))),
      omega (arith, more, c.self.invariant.1),
    )
