use Rattle.std.proofs.Common.{◌<◌, sym, subst, length, ◌∙◌, arith}
use Rattle.owner_outboxes.specs.Outboxes.{boxes_of}
use Rattle.owner_outboxes.proofs.Boxing.{boxes_length, emptied, count_taken, count_same}
use Rattle.owner_outboxes.proofs.Using.{taken_last, taken_more, none_taken}
use Rattle.owner_outboxes.proofs.queues.Outboxes.take_out.Goals as goal

pub invariant_of-self : goal.invariant_of-self
invariant_of-self g c =
    let old = boxes_of c.self.inside.queues.items in
    let new = boxes_of c.pop_oldest.new.queues.items in
    let lt : c.args.to < length old = subst (λ bs. c.args.to < length bs) (sym c.self.view_is) c.requires in (
      none_taken old new c.args.to c.self.inside.in_use lt c.in_err-message.ensures.first c.in_err-message.ensures.others c.self.invariant.0,
      c.self.invariant.1 ∙ count_same old new c.args.to lt c.in_err-message.ensures.first c.in_err-message.ensures.others,
    )

pub overflow_sub-self : goal.overflow_sub-self
overflow_sub-self g c =
    let less = count_taken (boxes_of c.self.inside.queues.items) (boxes_of c.pop_oldest.new.queues.items) c.args.to
    c.in_ok-message.message (subst (λ bs. c.args.to < length bs) (sym c.self.view_is) c.requires)
    c.in_ok-message.ensures.first c.in_ok-message.ensures.others in
    omega (arith, less, c.self.invariant.1)

pub overflow_sub-self-then-is_empty : goal.overflow_sub-self-then-is_empty
overflow_sub-self-then-is_empty g c =
    let old = boxes_of c.self.inside.queues.items in
    let lt : c.args.to < length old = subst (λ bs. c.args.to < length bs) (sym c.self.view_is) c.requires in
    let long = boxes_length c.self.inside.queues.items in
    let less = taken_last old (boxes_of c.pop_oldest.new.queues.items) c.args.to c.in_ok-message.message c.self.inside.in_use lt
    c.in_ok-message.ensures.first c.in_ok-message.ensures.others c.self.invariant.0
    (emptied c.pop_oldest.new.queues.items c.args.to c.index.result.now (omega (arith, lt, long, c.in_ok-message.ensures.len)) c.index.ensures
    ∙ (sym c.is_empty.ensures ∙ c.if-is_empty.true)) in
    omega (arith, less)

pub invariant_of-self-then-is_empty : goal.invariant_of-self-then-is_empty
invariant_of-self-then-is_empty g c =
    let old = boxes_of c.self.inside.queues.items in
    let new = boxes_of c.pop_oldest.new.queues.items in
    let m = c.in_ok-message.message in
    let lt : c.args.to < length old = subst (λ bs. c.args.to < length bs) (sym c.self.view_is) c.requires in
    let long = boxes_length c.self.inside.queues.items in
    let less = taken_last old new c.args.to m c.self.inside.in_use lt c.in_ok-message.ensures.first c.in_ok-message.ensures.others c.self.invariant.0
    (emptied c.pop_oldest.new.queues.items c.args.to c.index.result.now (omega (arith, lt, long, c.in_ok-message.ensures.len)) c.index.ensures
    ∙ (sym c.is_empty.ensures ∙ c.if-is_empty.true)) in
    let fewer = count_taken old new c.args.to m lt c.in_ok-message.ensures.first c.in_ok-message.ensures.others in
    (omega (arith, less), omega (arith, fewer, c.self.invariant.1))

pub invariant_of-self-else-is_empty : goal.invariant_of-self-else-is_empty
invariant_of-self-else-is_empty g c =
    let old = boxes_of c.self.inside.queues.items in
    let new = boxes_of c.pop_oldest.new.queues.items in
    let m = c.in_ok-message.message in
    let lt : c.args.to < length old = subst (λ bs. c.args.to < length bs) (sym c.self.view_is) c.requires in
    let long = boxes_length c.self.inside.queues.items in
    let fewer = count_taken old new c.args.to m lt c.in_ok-message.ensures.first c.in_ok-message.ensures.others in (
      taken_more old new c.args.to m c.self.inside.in_use lt c.in_ok-message.ensures.first c.in_ok-message.ensures.others c.self.invariant.0
          (emptied c.pop_oldest.new.queues.items c.args.to c.index.result.now (omega (arith, lt, long, c.in_ok-message.ensures.len)) c.index.ensures
          ∙ (sym c.is_empty.ensures ∙ c.if-is_empty.false)),
      omega (arith, fewer, c.self.invariant.1),
    )
