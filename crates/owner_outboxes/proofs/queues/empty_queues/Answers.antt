use Rattle.std.proofs.Common.{◌≡◌, ◌∙◌, ap, arith, replicate, []}
use Rattle.owner_outboxes.proofs.Boxing.{boxes_more}
use Rattle.owner_outboxes.proofs.queues.empty_queues.Goals as goal

pub loop-preserved : goal.loop-preserved
loop-preserved g c =
    boxes_more c.loop.queues.items c.push.new.self.items c.new.result c.loop.counter c.in_ok-push.ensures.items c.new.ensures.items c.loop.invariant

pub returns : goal.returns
returns g c = let e : c.loop.counter ≡ c.args.owners = omega arith in c.loop.invariant ∙ ap (λ n. replicate n []) e
