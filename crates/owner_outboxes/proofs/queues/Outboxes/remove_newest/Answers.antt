use Rattle.std.proofs.Common.{◌<◌, sym, subst, length, ◌∙◌, arith}
use Rattle.owner_outboxes.specs.Outboxes.{boxes_of}
use Rattle.owner_outboxes.proofs.Boxing.{boxes_length, emptied}
use Rattle.owner_outboxes.proofs.Withdrawing.{removed_none, removed_count, removed_last, removed_more}
use Rattle.owner_outboxes.proofs.queues.Outboxes.remove_newest.Goals as goal

pub invariant_of-self : goal.invariant_of-self
invariant_of-self g c =
    let old = boxes_of c.self.inside.queues.items in
    let new = boxes_of c.pop_newest.new.queues.items in
    let lt : c.args.to < length old = subst (λ bs. c.args.to < length bs) (sym c.self.view_is) c.requires in
    let same = removed_none old new c.args.to lt c.in_default.ensures.rest c.in_default.ensures.last in
    (c.self.invariant.0 ∙ same.0, c.self.invariant.1 ∙ same.1)

pub overflow_sub-self : goal.overflow_sub-self
overflow_sub-self g c =
    let lt = subst (λ bs. c.args.to < length bs) (sym c.self.view_is) c.requires in
    let fewer = removed_count (boxes_of c.self.inside.queues.items) (boxes_of c.pop_newest.new.queues.items) c.args.to lt
    c.in-Some.ensures.rest c.in-Some.field-0 c.in-Some.ensures.last in
    omega (arith, fewer, c.self.invariant.1)

pub overflow_sub-self-then-is_last : goal.overflow_sub-self-then-is_last
overflow_sub-self-then-is_last g c =
    let old = boxes_of c.self.inside.queues.items in
    let lt : c.args.to < length old = subst (λ bs. c.args.to < length bs) (sym c.self.view_is) c.requires in
    let long = boxes_length c.self.inside.queues.items in
    let fewer = removed_last old (boxes_of c.pop_newest.new.queues.items) c.args.to lt c.in-Some.ensures.rest c.in-Some.field-0 c.in-Some.ensures.last
    (emptied c.pop_newest.new.queues.items c.args.to c.index.result.now (omega (arith, lt, long, c.in-Some.ensures.len)) c.index.ensures
    ∙ (sym c.is_empty-is_last.ensures ∙ c.if-is_last.true)) in
    omega (arith, fewer, c.self.invariant.0)

pub invariant_of-self-then-is_last : goal.invariant_of-self-then-is_last
invariant_of-self-then-is_last g c =
    let old = boxes_of c.self.inside.queues.items in
    let new = boxes_of c.pop_newest.new.queues.items in
    let m = c.in-Some.field-0 in
    let lt : c.args.to < length old = subst (λ bs. c.args.to < length bs) (sym c.self.view_is) c.requires in
    let long = boxes_length c.self.inside.queues.items in
    let less = removed_last old new c.args.to lt c.in-Some.ensures.rest m c.in-Some.ensures.last
    (emptied c.pop_newest.new.queues.items c.args.to c.index.result.now (omega (arith, lt, long, c.in-Some.ensures.len)) c.index.ensures
    ∙ (sym c.is_empty-is_last.ensures ∙ c.if-is_last.true)) in
    let fewer = removed_count old new c.args.to lt c.in-Some.ensures.rest m c.in-Some.ensures.last in
    (omega (arith, less, c.self.invariant.0), omega (arith, fewer, c.self.invariant.1))

pub invariant_of-self-else-is_last : goal.invariant_of-self-else-is_last
invariant_of-self-else-is_last g c =
    let old = boxes_of c.self.inside.queues.items in
    let new = boxes_of c.pop_newest.new.queues.items in
    let m = c.in-Some.field-0 in
    let lt : c.args.to < length old = subst (λ bs. c.args.to < length bs) (sym c.self.view_is) c.requires in
    let long = boxes_length c.self.inside.queues.items in
    let fewer = removed_count old new c.args.to lt c.in-Some.ensures.rest m c.in-Some.ensures.last in (
      c.self.invariant.0
          ∙ removed_more old new c.args.to lt c.in-Some.ensures.rest m c.in-Some.ensures.last
          (emptied c.pop_newest.new.queues.items c.args.to c.index.result.now (omega (arith, lt, long, c.in-Some.ensures.len)) c.index.ensures
          ∙ (sym c.is_empty-is_last.ensures ∙ c.if-is_last.false)),
      omega (arith, fewer, c.self.invariant.1),
    )
