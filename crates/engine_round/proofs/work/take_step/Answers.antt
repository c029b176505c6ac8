use Rattle.std.proofs.Common.{◌∙◌, subst}
use Rattle.std.specs.Prelude.{Bool}
use Rattle.board.specs.Seats.{view}
use Rattle.worker.specs.declared.outcome.Turn.{Turn}
use Rattle.worker.specs.Turns.{IsTurn}
use Rattle.engine_round.specs.Turns.{HasRelayed}
use Rattle.engine_round.proofs.Relays.{at_work, still_at_work, aside_turn}
use Rattle.engine_round.proofs.Kept.{relaying, one_turn, last_turn, stopped_turn, refused_turn}
use Rattle.engine_round.proofs.work.take_step.Goals as goal

pub relay-requires-clause-none_aside : goal.relay-requires-clause-none_aside
relay-requires-clause-none_aside g c =
    (one_turn g.S.Spread.owner g.F.StateForm.values (g.G.Gate.may_stop c.args.gate.now) c.args.board.now c.args.seat.now c.args.worker.now c.args.seat.now c.take_turn.new.seat c.args.worker.now c.take_turn.new.worker
    (at_work c.args.board.now c.args.seat.now c.args.worker.now c.requires.seat c.requires.none_uncounted c.requires.none_taken c.requires.none_aside)
    c.take_turn.ensures.seat c.take_turn.ensures.none_uncounted
    (subst (λ (t : Turn). IsTurn {F = g.row.F.Denot} g.S.Spread.owner g.F.StateForm.values c.args.worker.now c.take_turn.new.worker (view c.args.seat.now) (view c.take_turn.new.seat) t) c.in-Ok-Next.field-0-is
    c.in-Ok-Next.ensures.turned)).misfits

pub returns-in-Ok-true-clause-stepped : goal.returns-in-Ok-true-clause-stepped
returns-in-Ok-true-clause-stepped g c =
    still_at_work c.args.board.now c.args.seat.now c.args.worker.now c.take_turn.new.seat c.take_turn.new.worker c.relay.new.seat c.relay.new.worker
    (one_turn g.S.Spread.owner g.F.StateForm.values (g.G.Gate.may_stop c.args.gate.now) c.args.board.now c.args.seat.now c.args.worker.now c.args.seat.now c.take_turn.new.seat c.args.worker.now c.take_turn.new.worker
    (at_work c.args.board.now c.args.seat.now c.args.worker.now c.requires.seat c.requires.none_uncounted c.requires.none_taken c.requires.none_aside)
    c.take_turn.ensures.seat c.take_turn.ensures.none_uncounted
    (subst (λ (t : Turn). IsTurn {F = g.row.F.Denot} g.S.Spread.owner g.F.StateForm.values c.args.worker.now c.take_turn.new.worker (view c.args.seat.now) (view c.take_turn.new.seat) t) c.in-Ok-Next.field-0-is
    c.in-Ok-Next.ensures.turned))
    (subst (λ (t : Bool). HasRelayed {F = g.row.F.Denot} g.S.Spread.owner g.F.StateForm.values c.args.board.now c.take_turn.new.seat c.take_turn.new.worker c.relay.new.seat c.relay.new.worker t) c.in-Ok-true.field-0-test
    c.in-Ok-true.ensures.relayed)

pub returns-in-Ok-false-clause-stepped : goal.returns-in-Ok-false-clause-stepped
returns-in-Ok-false-clause-stepped g c =
    aside_turn g.S.Spread.owner g.F.StateForm.values (g.G.Gate.may_stop c.args.gate.now) c.args.board.now c.args.seat.now c.args.worker.now c.take_turn.new.seat c.take_turn.new.worker c.relay.new.seat c.halt.new.seat c.relay.new.worker
    (one_turn g.S.Spread.owner g.F.StateForm.values (g.G.Gate.may_stop c.args.gate.now) c.args.board.now c.args.seat.now c.args.worker.now c.args.seat.now c.take_turn.new.seat c.args.worker.now c.take_turn.new.worker
    (at_work c.args.board.now c.args.seat.now c.args.worker.now c.requires.seat c.requires.none_uncounted c.requires.none_taken c.requires.none_aside)
    c.take_turn.ensures.seat c.take_turn.ensures.none_uncounted
    (subst (λ (t : Turn). IsTurn {F = g.row.F.Denot} g.S.Spread.owner g.F.StateForm.values c.args.worker.now c.take_turn.new.worker (view c.args.seat.now) (view c.take_turn.new.seat) t) c.in-Ok-Next.field-0-is
    c.in-Ok-Next.ensures.turned))
    (subst (λ (t : Bool). HasRelayed {F = g.row.F.Denot} g.S.Spread.owner g.F.StateForm.values c.args.board.now c.take_turn.new.seat c.take_turn.new.worker c.relay.new.seat c.relay.new.worker t) c.in-Ok-false.field-0-test
    c.in-Ok-false.ensures.relayed)
    c.halt.ensures.seat c.halt.ensures.view

pub returns-in-Ok-Last-clause-stepped : goal.returns-in-Ok-Last-clause-stepped
returns-in-Ok-Last-clause-stepped g c =
    last_turn g.S.Spread.owner g.F.StateForm.values (g.G.Gate.may_stop c.args.gate.now) c.args.board.now c.args.seat.now c.args.worker.now c.args.seat.now c.take_turn.new.seat c.args.worker.now c.take_turn.new.worker
    (at_work c.args.board.now c.args.seat.now c.args.worker.now c.requires.seat c.requires.none_uncounted c.requires.none_taken c.requires.none_aside)
    c.take_turn.ensures.seat c.take_turn.ensures.none_uncounted
    (subst (λ (t : Turn). IsTurn {F = g.row.F.Denot} g.S.Spread.owner g.F.StateForm.values c.args.worker.now c.take_turn.new.worker (view c.args.seat.now) (view c.take_turn.new.seat) t)
    c.in-Ok-Last.field-0-is c.in-Ok-Last.ensures.turned)

pub returns-in-Ok-Misfit-clause-stepped : goal.returns-in-Ok-Misfit-clause-stepped
returns-in-Ok-Misfit-clause-stepped g c =
    let end = subst (λ (t : Turn). IsTurn {F = g.row.F.Denot} g.S.Spread.owner g.F.StateForm.values c.args.worker.now c.take_turn.new.worker (view c.args.seat.now) (view c.take_turn.new.seat) t)
    c.in-Ok-Misfit.field-0-is c.in-Ok-Misfit.ensures.turned in
    stopped_turn g.S.Spread.owner g.F.StateForm.values (g.G.Gate.may_stop c.args.gate.now) c.args.board.now c.args.seat.now c.args.worker.now c.args.seat.now c.halt-in-Ok-Misfit.new.seat c.args.worker.now c.take_turn.new.worker
    (relaying c.args.board.now c.args.seat.now c.args.worker.now c.args.seat.now c.args.worker.now
    (at_work c.args.board.now c.args.seat.now c.args.worker.now c.requires.seat c.requires.none_uncounted c.requires.none_taken c.requires.none_aside))
    c.halt-in-Ok-Misfit.ensures.seat c.take_turn.ensures.none_uncounted (c.halt-in-Ok-Misfit.ensures.view ∙ end.1) end.0

pub returns-in-Err-clause-fault : goal.returns-in-Err-clause-fault
returns-in-Err-clause-fault g c =
    refused_turn g.S.Spread.owner g.F.StateForm.values (g.G.Gate.may_stop c.args.gate.now) c.args.board.now c.args.seat.now c.args.worker.now c.in-Err.fault c.args.seat.now c.halt-in-Err.new.seat (view c.take_turn.new.seat) c.args.worker.now c.take_turn.new.worker
    (at_work c.args.board.now c.args.seat.now c.args.worker.now c.requires.seat c.requires.none_uncounted c.requires.none_taken c.requires.none_aside)
    c.halt-in-Err.ensures.seat c.take_turn.ensures.none_uncounted c.halt-in-Err.ensures.view c.in-Err.ensures.fault
