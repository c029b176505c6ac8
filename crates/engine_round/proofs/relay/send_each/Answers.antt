use Rattle.std.proofs.Common.{◌∙◌, arith, refl}
use Rattle.worker.specs.Turns.{SendsTo}
use Rattle.worker.proofs.Chains.{one_more, was_sent, sends_keep}
use Rattle.engine_round.proofs.relay.send_each.Goals as goal

pub loop-to-init : goal.loop-to-init
loop-to-init g c = refl

pub send-sent-requires-clause-within : goal.send-sent-requires-clause-within
send-sent-requires-clause-within g c =
    let kept = sends_keep g.F.StateForm.values _ _ _ c.loop-to.invariant in
    omega (arith, kept.outs, c.workers-to-end.ensures.outs)

pub send-sent-requires-clause-none_uncounted : goal.send-sent-requires-clause-none_uncounted
send-sent-requires-clause-none_uncounted g c = (sends_keep g.F.StateForm.values _ _ _ c.loop-to.invariant).uncounted ∙ c.requires

pub loop-to-preserved : goal.loop-to-preserved
loop-to-preserved g c = one_more (SendsTo g.F.StateForm.values) _ _ _ _ c.loop-to.invariant (was_sent g.F.StateForm.values _ _ _ _ c.send-sent.ensures)
