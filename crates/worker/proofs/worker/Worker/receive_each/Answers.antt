use Rattle.std.proofs.Common.{◌∙◌, ap, inr, length, slice_get, subst, arith}
use Rattle.std.proofs.lemmas.Result.{err_from_is_err_and}
use Rattle.worker.specs.declared.outcome.Received.{Received}
use Rattle.worker.specs.Workers.{WorkerOf}
use Rattle.worker.specs.Turns.{HasReceived, ReceivesFrom}
use Rattle.worker.proofs.Chains.{one_more, was_received, receives_keep}
use Rattle.worker.proofs.Steps.{passes_over}
use Rattle.worker.proofs.worker.Worker.receive_each.Goals as goal

pub loop-from-init : goal.loop-from-init
loop-from-init g c = c.begin_polling-looks.ensures

pub receive-requires-clause-within : goal.receive-requires-clause-within
receive-requires-clause-within g c =
    let kept = receives_keep g.S.Spread.owner g.F.StateForm.values _ _ _ c.loop-from.invariant in
    omega (arith, kept.ins, c.workers-from-end.ensures.ins, ap (λ (w : WorkerOf g.row.S.Denot g.row.F.Denot). length w.ins) c.begin_polling-looks.ensures)

pub receive-requires-clause-none_aside : goal.receive-requires-clause-none_aside
receive-requires-clause-none_aside g c = (receives_keep g.S.Spread.owner g.F.StateForm.values _ _ _ c.loop-from.invariant).misfits ∙ c.requires.none_aside

pub receive-requires-clause-countable : goal.receive-requires-clause-countable
receive-requires-clause-countable g c =
    let kept = receives_keep g.S.Spread.owner g.F.StateForm.values _ _ _ c.loop-from.invariant in
    omega (arith, kept.taken, c.requires.none_taken)

pub returns-in_err-receive-clause-refused : goal.returns-in_err-receive-clause-refused
returns-in_err-receive-clause-refused g c =
    let p = err_from_is_err_and c.from_residual.result c.from_residual.ensures.1 in
    rw p.1 (record {
      from = c.loop-from.from;
      within = omega (arith, c.workers-from-end.ensures.ins, ap (λ (w : WorkerOf g.row.S.Denot g.row.F.Denot). length w.ins) c.begin_polling-looks.ensures);
      received = c.loop-from.self;
      receives = c.loop-from.invariant;
      held = c.in_err-receive.ensures.refused;
    })

pub returns-in-SetAside-clause-received : goal.returns-in-SetAside-clause-received
returns-in-SetAside-clause-received g c =
    let kept = receives_keep g.S.Spread.owner g.F.StateForm.values _ _ _ c.loop-from.invariant in
    record {
      from = c.loop-from.from;
      within = omega (arith, c.workers-from-end.ensures.ins, ap (λ (w : WorkerOf g.row.S.Denot g.row.F.Denot). length w.ins) c.begin_polling-looks.ensures);
      received = c.loop-from.self;
      receives = c.loop-from.invariant;
      aside = subst (λ (r : Received). HasReceived g.S.Spread.owner g.F.StateForm.values c.loop-from.from c.loop-from.self c.receive.new.self r) c.in-SetAside.is
          c.in_ok-receive.ensures.received;
    }

pub loop-from-preserved : goal.loop-from-preserved
loop-from-preserved g c =
    one_more (ReceivesFrom g.S.Spread.owner g.F.StateForm.values) _ _ _ _ c.loop-from.invariant
    (was_received g.S.Spread.owner g.F.StateForm.values _ _ _ _ c.in_default.not-SetAside c.in_ok-receive.ensures.received)

pub knows_none-requires : goal.knows_none-requires
knows_none-requires g c =
    let kept = receives_keep g.S.Spread.owner g.F.StateForm.values _ _ _ c.loop-from.invariant in
    let read = ap length c.deref.ensures.value ∙ ap (λ (w : WorkerOf g.row.S.Denot g.row.F.Denot). length w.ins) c.self-in-loop-from.view_is in
    omega (arith, read, kept.ins, c.workers-from-end.ensures.ins, ap (λ (w : WorkerOf g.row.S.Denot g.row.F.Denot). length w.ins) c.begin_polling-looks.ensures)

pub loop-from-preserved-then-knows_none : goal.loop-from-preserved-then-knows_none
loop-from-preserved-then-knows_none g c =
    let read = c.deref.ensures.value ∙ ap (λ (w : WorkerOf g.row.S.Denot g.row.F.Denot). w.ins) c.self-in-loop-from.view_is in
    one_more (ReceivesFrom g.S.Spread.owner g.F.StateForm.values) _ _ _ _ c.loop-from.invariant
    (inr (passes_over g.F.StateForm.values c.loop-from.self c.loop-from.from (λ i at. c.knows_none.ensures c.if-knows_none.true i (ap (λ is. slice_get is c.loop-from.from) read ∙ at))))
