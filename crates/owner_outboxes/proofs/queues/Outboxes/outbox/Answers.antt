use Rattle.std.proofs.Common.{◌∙◌, ◌<◌, ap, sym, subst, length}
use Rattle.owner_outboxes.proofs.Boxing.{box_of, box_at, boxes_length}
use Rattle.owner_outboxes.proofs.queues.Outboxes.outbox.Goals as goal

pub returns : goal.returns
returns g c =
    let qs = c.self.inside.queues.items in
    let within = subst (λ bs. c.args.to < length bs) (sym c.self.view_is) c.requires in
    rw (← c.self.view_is)
    (ap box_of c.index.ensures ∙ sym (box_at qs c.args.to c.index.result.now (subst (λ n. c.args.to < n) (boxes_length qs) within)))
