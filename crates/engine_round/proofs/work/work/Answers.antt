use Rattle.std.proofs.Common.{◌∙◌, Some, None, sym, subst}
use Rattle.std.specs.Prelude.{Bool}
use Rattle.engine_round.specs.Turns.{HasStepped}
use Rattle.engine_round.proofs.Relays.{still_at_work}
use Rattle.engine_round.proofs.Kept.{at_start, worked_since}
use Rattle.engine_round.proofs.work.work.Goals.{in-Ok-false, in-Err}
use Rattle.engine_round.proofs.work.work.Goals as goal

pub loop-init : goal.loop-init
loop-init g c = at_start c.args.board.now c.args.seat c.args.worker c.begin_round.new.self c.requires.seat c.requires.none_aside c.begin_round.ensures

pub take_step-requires-clause-number : goal.take_step-requires-clause-number
take_step-requires-clause-number g c = c.requires.number ∙ sym c.loop.invariant.same.number

pub loop-preserved : goal.loop-preserved
loop-preserved g c =
    still_at_work c.args.board.now c.args.seat c.args.worker c.loop.seat c.loop.worker c.take_step.new.seat c.take_step.new.worker c.loop.invariant
    (subst (λ (t : Bool). HasStepped {F = g.row.F.Denot} g.S.Spread.owner g.F.StateForm.values (g.G.Gate.may_stop c.args.gate.now) c.args.board.now c.loop.seat c.loop.worker c.take_step.new.seat c.take_step.new.worker t)
    c.in-Ok-true.field-0-test c.in-Ok-true.ensures.stepped)

pub returns-in-loop : goal.returns-in-loop
returns-in-loop g c =
    elim c.match-take_step.branch [
      | in-Ok-false w ↦ rw w.fault-is (worked_since g.S.Spread.owner g.F.StateForm.values (g.G.Gate.may_stop c.args.gate.now) c.args.board.now c.args.seat c.args.worker c.loop.seat c.loop.worker
          (record { worker = c.take_step.new.worker; seat = c.take_step.new.seat; fault = None }) c.loop.invariant
          (subst (λ (t : Bool). HasStepped {F = g.row.F.Denot} g.S.Spread.owner g.F.StateForm.values (g.G.Gate.may_stop c.args.gate.now) c.args.board.now c.loop.seat c.loop.worker c.take_step.new.seat c.take_step.new.worker t)
          w.in-Ok-false.field-0-test w.in-Ok-false.ensures.stepped))
      | in-Err w ↦ rw w.fault-is (worked_since g.S.Spread.owner g.F.StateForm.values (g.G.Gate.may_stop c.args.gate.now) c.args.board.now c.args.seat c.args.worker c.loop.seat c.loop.worker
          (record { worker = c.take_step.new.worker; seat = c.take_step.new.seat; fault = Some w.in-Err.fault }) c.loop.invariant w.in-Err.ensures.fault)
    ]
