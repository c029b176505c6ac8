use Rattle.std.proofs.Common.{◌∙◌, subst, arith, refl}
use Rattle.std.proofs.lemmas.Result.{err_from_is_err_and}
use Rattle.worker.specs.declared.outcome.Received.{Received}
use Rattle.worker.specs.Turns.{HasReceived, ReceivesFrom}
use Rattle.worker.proofs.Chains.{one_more, was_received, receives_keep}
use Rattle.engine_round.proofs.relay.receive_each.Goals as goal

pub loop-from-init : goal.loop-from-init
loop-from-init g c = refl

pub receive-requires-clause-within : goal.receive-requires-clause-within
receive-requires-clause-within g c =
    let kept = receives_keep g.S.Spread.owner g.F.StateForm.values _ _ _ c.loop-from.invariant in
    omega (arith, kept.ins, c.workers-from-end.ensures.ins)

pub receive-requires-clause-none_aside : goal.receive-requires-clause-none_aside
receive-requires-clause-none_aside g c = (receives_keep g.S.Spread.owner g.F.StateForm.values _ _ _ c.loop-from.invariant).misfits ∙ c.requires.none_aside

pub receive-requires-clause-countable : goal.receive-requires-clause-countable
receive-requires-clause-countable g c =
    let kept = receives_keep g.S.Spread.owner g.F.StateForm.values _ _ _ c.loop-from.invariant in
    omega (arith, kept.taken, c.requires.countable, c.workers-from-end.ensures.ins)

pub returns-in_err-received-clause-held : goal.returns-in_err-received-clause-held
returns-in_err-received-clause-held g c =
    let p = err_from_is_err_and c.from_residual.result c.from_residual.ensures.1 in
    rw p.1 (record {
      from = c.loop-from.from;
      within = omega (arith, c.workers-from-end.ensures.ins);
      received = c.loop-from.worker;
      receives = c.loop-from.invariant;
      held = c.in_err-received.ensures.refused;
    })

pub returns-in-SetAside-clause-received : goal.returns-in-SetAside-clause-received
returns-in-SetAside-clause-received g c = record {
  from = c.loop-from.from;
  within = omega (arith, c.workers-from-end.ensures.ins);
  received = c.loop-from.worker;
  receives = c.loop-from.invariant;
  aside = subst (λ (r : Received). HasReceived g.S.Spread.owner g.F.StateForm.values c.loop-from.from c.loop-from.worker c.receive.new.self r) c.in-SetAside.is
      c.in_ok-received.ensures.received;
}

pub loop-from-preserved : goal.loop-from-preserved
loop-from-preserved g c =
    one_more (ReceivesFrom g.S.Spread.owner g.F.StateForm.values) _ _ _ _ c.loop-from.invariant
    (was_received g.S.Spread.owner g.F.StateForm.values _ _ _ _ c.in_default.not-SetAside c.in_ok-received.ensures.received)
