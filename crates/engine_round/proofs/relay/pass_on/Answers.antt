use Rattle.std.proofs.Common.{◌∙◌, ap, length, refl, subst, arith}
use Rattle.std.proofs.lemmas.Result.{err_from_is_err_and}
use Rattle.worker.specs.declared.outcome.Received.{Received}
use Rattle.worker.proofs.Chains.{stopped_uncounted, held_uncounted}
use Rattle.engine_round.specs.Turns.{HasReceivedAll}
use Rattle.engine_round.proofs.Relays.{sends_keep_others, sent_after_counting, received_relaying, counted_at_work, all_received}
use Rattle.engine_round.proofs.relay.pass_on.Goals as goal

pub receive_each-requires-clause-none_aside : goal.receive_each-requires-clause-none_aside
receive_each-requires-clause-none_aside g c =
    (sent_after_counting g.S.Spread.owner g.F.StateForm.values c.args.board.now c.args.seat.now c.args.worker.now c.loop.seat c.count_much.new.seat c.loop.worker c.count_much.new.worker c.send_each-sent.new.worker
    c.loop.invariant c.count_much.ensures.seat c.count_much.ensures.counted c.send_each-sent.ensures).misfits

pub receive_each-requires-clause-countable : goal.receive_each-requires-clause-countable
receive_each-requires-clause-countable g c =
    let kept = sends_keep_others g.F.StateForm.values _ _ _ c.send_each-sent.ensures in
    omega (arith, kept.0, ap length kept.1, c.count_much.ensures.countable)

pub returns-in_err-received-clause-held : goal.returns-in_err-received-clause-held
returns-in_err-received-clause-held g c =
    let p = err_from_is_err_and c.from_residual.result c.from_residual.ensures.1 in
    rw p.1 (record {
      seat = c.count_much.new.seat;
      worker = c.send_each-sent.new.worker;
      before = sent_after_counting g.S.Spread.owner g.F.StateForm.values c.args.board.now c.args.seat.now c.args.worker.now c.loop.seat c.count_much.new.seat c.loop.worker c.count_much.new.worker c.send_each-sent.new.worker
          c.loop.invariant c.count_much.ensures.seat c.count_much.ensures.counted c.send_each-sent.ensures;
      held = c.in_err-received.ensures.held;
      unseen = refl;
    })

pub returns-in_err-received-clause-none_uncounted : goal.returns-in_err-received-clause-none_uncounted
returns-in_err-received-clause-none_uncounted g c =
    held_uncounted g.S.Spread.owner g.F.StateForm.values c.send_each-sent.new.worker c.receive_each.new.worker c.in_err-received.ensures.held
    ∙ (sent_after_counting g.S.Spread.owner g.F.StateForm.values c.args.board.now c.args.seat.now c.args.worker.now c.loop.seat c.count_much.new.seat c.loop.worker c.count_much.new.worker c.send_each-sent.new.worker
    c.loop.invariant c.count_much.ensures.seat c.count_much.ensures.counted c.send_each-sent.ensures).uncounted

pub returns-in-SetAside-clause-passed : goal.returns-in-SetAside-clause-passed
returns-in-SetAside-clause-passed g c = record {
  seat = c.count_much.new.seat;
  worker = c.send_each-sent.new.worker;
  before = sent_after_counting g.S.Spread.owner g.F.StateForm.values c.args.board.now c.args.seat.now c.args.worker.now c.loop.seat c.count_much.new.seat c.loop.worker c.count_much.new.worker c.send_each-sent.new.worker
      c.loop.invariant c.count_much.ensures.seat c.count_much.ensures.counted c.send_each-sent.ensures;
  stopped = subst (λ (r : Received). HasReceivedAll {F = g.row.F.Denot} g.S.Spread.owner g.F.StateForm.values c.send_each-sent.new.worker c.receive_each.new.worker r) c.in-SetAside.is
      c.in_ok-received.ensures.received;
  unseen = refl;
}

pub returns-in-SetAside-clause-none_uncounted : goal.returns-in-SetAside-clause-none_uncounted
returns-in-SetAside-clause-none_uncounted g c =
    stopped_uncounted g.S.Spread.owner g.F.StateForm.values c.send_each-sent.new.worker c.receive_each.new.worker
    (subst (λ (r : Received). HasReceivedAll {F = g.row.F.Denot} g.S.Spread.owner g.F.StateForm.values c.send_each-sent.new.worker c.receive_each.new.worker r) c.in-SetAside.is
    c.in_ok-received.ensures.received)
    ∙ (sent_after_counting g.S.Spread.owner g.F.StateForm.values c.args.board.now c.args.seat.now c.args.worker.now c.loop.seat c.count_much.new.seat c.loop.worker c.count_much.new.worker c.send_each-sent.new.worker
    c.loop.invariant c.count_much.ensures.seat c.count_much.ensures.counted c.send_each-sent.ensures).uncounted

pub loop-preserved-then-sent : goal.loop-preserved-then-sent
loop-preserved-then-sent g c =
    received_relaying g.S.Spread.owner g.F.StateForm.values c.args.board.now c.args.seat.now c.args.worker.now c.count_much.new.seat c.send_each-sent.new.worker c.receive_each.new.worker
    (sent_after_counting g.S.Spread.owner g.F.StateForm.values c.args.board.now c.args.seat.now c.args.worker.now c.loop.seat c.count_much.new.seat c.loop.worker c.count_much.new.worker c.send_each-sent.new.worker
    c.loop.invariant c.count_much.ensures.seat c.count_much.ensures.counted c.send_each-sent.ensures)
    (all_received g.S.Spread.owner g.F.StateForm.values _ _ _ c.in_default.not-SetAside c.in_ok-received.ensures.received)

pub loop-preserved : goal.loop-preserved
loop-preserved g c =
    received_relaying g.S.Spread.owner g.F.StateForm.values c.args.board.now c.args.seat.now c.args.worker.now c.count_much.new.seat c.send_each-sent.new.worker c.receive_each.new.worker
    (sent_after_counting g.S.Spread.owner g.F.StateForm.values c.args.board.now c.args.seat.now c.args.worker.now c.loop.seat c.count_much.new.seat c.loop.worker c.count_much.new.worker c.send_each-sent.new.worker
    c.loop.invariant c.count_much.ensures.seat c.count_much.ensures.counted c.send_each-sent.ensures)
    (all_received g.S.Spread.owner g.F.StateForm.values _ _ _ c.in_default.not-SetAside c.in_ok-received.ensures.received)

pub returns-then-outboxes_in_use-eq0 : goal.returns-then-outboxes_in_use-eq0
returns-then-outboxes_in_use-eq0 g c =
    let now = received_relaying g.S.Spread.owner g.F.StateForm.values c.args.board.now c.args.seat.now c.args.worker.now c.count_much.new.seat c.send_each-sent.new.worker c.receive_each.new.worker
    (sent_after_counting g.S.Spread.owner g.F.StateForm.values c.args.board.now c.args.seat.now c.args.worker.now c.loop.seat c.count_much.new.seat c.loop.worker c.count_much.new.worker c.send_each-sent.new.worker
    c.loop.invariant c.count_much.ensures.seat c.count_much.ensures.counted c.send_each-sent.ensures)
    (all_received g.S.Spread.owner g.F.StateForm.values _ _ _ c.in_default.not-SetAside c.in_ok-received.ensures.received) in
    record { seat = now.seat; passed = now; held = tt; none_uncounted = now.uncounted }
