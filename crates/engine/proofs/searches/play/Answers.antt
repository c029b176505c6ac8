use Rattle.std.proofs.Common.{length, sym, subst}
use Rattle.std.proofs.lemmas.Result.{err_from_is_err_and}
use Rattle.engine_round.specs.Rounds.{RoundEndOf, IsRound}
use Rattle.engine.proofs.Rounds.{round_none_aside, round_numbered, round_bounded, round_count, round_team, round_fault, halt_in, fault_in}
use Rattle.engine.proofs.searches.play.Goals as goal

pub round-requires-clause-none_aside : goal.round-requires-clause-none_aside
round-requires-clause-none_aside g c κs within =
    round_none_aside c.args.team c.into_parts-workers.ensures.team c.into_parts-workers.result.workers.items c.into_parts-workers.ensures.workers c.requires

pub round-requires-clause-numbered : goal.round-requires-clause-numbered
round-requires-clause-numbered g c κs within =
    round_numbered c.args.team c.into_parts-workers.ensures.team c.into_parts-workers.result.workers.items c.into_parts-workers.ensures.workers

pub round-requires-clause-bounded : goal.round-requires-clause-bounded
round-requires-clause-bounded g c κs within =
    round_bounded c.args.team c.into_parts-workers.ensures.team c.into_parts-workers.result.workers.items c.into_parts-workers.ensures.workers
    c.into_parts-workers.result.best c.into_parts-workers.ensures.best

pub returns-in_err-halt-clause-fault : goal.returns-in_err-halt-clause-fault
returns-in_err-halt-clause-fault g c =
    let end : RoundEndOf g.row.S.Denot g.row.F.Denot = record { workers = c.end.inside.workers.items; best = c.end.inside.best; fault = c.end.inside.fault } in
    let round = subst (IsRound g.S.Spread.owner g.F.StateForm.values (g.G.Gate.may_stop c.args.gate.now) c.into_parts-workers.result.workers.items) (sym c.end.view_is)
    c.in_ok-end.ensures in
    let p = err_from_is_err_and c.from_residual-in_err-halt.result c.from_residual-in_err-halt.ensures.1 in
    rw (p.1, p.2) (fault_in g.S.Spread.owner (g.G.Gate.may_stop c.args.gate.now) c.args.team.space (length c.args.team.workers) c.end.inside.fault
    c.in_err-halt.field-0.0
    (round_fault g.S.Spread.owner g.F.StateForm.values (g.G.Gate.may_stop c.args.gate.now) c.args.team c.into_parts-workers.ensures.team
    c.into_parts-workers.result.workers.items c.into_parts-workers.ensures.workers end round)
    (sym c.in_err-halt.ensures))

pub of_workers-requires : goal.of_workers-requires
of_workers-requires g c =
    let end : RoundEndOf g.row.S.Denot g.row.F.Denot = record { workers = c.end.inside.workers.items; best = c.end.inside.best; fault = c.end.inside.fault } in
    let round = subst (IsRound g.S.Spread.owner g.F.StateForm.values (g.G.Gate.may_stop c.args.gate.now) c.into_parts-workers.result.workers.items) (sym c.end.view_is)
    c.in_ok-end.ensures in
    round_team c.args.team c.into_parts-workers.ensures.team c.into_parts-workers.result.workers.items c.into_parts-workers.ensures.workers
    g.S.Spread.owner g.F.StateForm.values (g.G.Gate.may_stop c.args.gate.now) end round c.into_parts-workers.result.space.now c.into_parts-workers.ensures.space

pub returns-clause-team : goal.returns-clause-team
returns-clause-team g c =
    let end : RoundEndOf g.row.S.Denot g.row.F.Denot = record { workers = c.end.inside.workers.items; best = c.end.inside.best; fault = c.end.inside.fault } in
    let round = subst (IsRound g.S.Spread.owner g.F.StateForm.values (g.G.Gate.may_stop c.args.gate.now) c.into_parts-workers.result.workers.items) (sym c.end.view_is)
    c.in_ok-end.ensures in
    rw c.of_workers.ensures (record {
      space = c.into_parts-workers.ensures.space;
      count = round_count c.args.team c.into_parts-workers.ensures.team c.into_parts-workers.result.workers.items c.into_parts-workers.ensures.workers
          g.S.Spread.owner g.F.StateForm.values (g.G.Gate.may_stop c.args.gate.now) end round;
    })

pub returns-clause-halt : goal.returns-clause-halt
returns-clause-halt g c =
    let end : RoundEndOf g.row.S.Denot g.row.F.Denot = record { workers = c.end.inside.workers.items; best = c.end.inside.best; fault = c.end.inside.fault } in
    let round = subst (IsRound g.S.Spread.owner g.F.StateForm.values (g.G.Gate.may_stop c.args.gate.now) c.into_parts-workers.result.workers.items) (sym c.end.view_is)
    c.in_ok-end.ensures in
    halt_in (g.G.Gate.may_stop c.args.gate.now) (length c.args.team.workers) c.end.inside.fault c.in_ok-halt.halt
    (round_fault g.S.Spread.owner g.F.StateForm.values (g.G.Gate.may_stop c.args.gate.now) c.args.team c.into_parts-workers.ensures.team
    c.into_parts-workers.result.workers.items c.into_parts-workers.ensures.workers end round)
    (sym c.in_ok-halt.ensures)
