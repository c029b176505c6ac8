use Rattle.engine_round.proofs.Joining.{seats_of, all_joined, is_round}
use Rattle.board.specs.Seats.{view}
use Rattle.engine_round.proofs.rounds.round.Goals as goal

pub finish-requires-clause-seats : goal.finish-requires-clause-seats
finish-requires-clause-seats g c =
    seats_of g.S.Spread.owner g.F.StateForm.values (g.G.Gate.may_stop c.args.gate.now) c.in_ok-board.board c.in_ok-own.jobs.items c.in_ok-own-2.worked.items c.in_ok-own-2.ensures.worked

pub finish-requires-clause-parts : goal.finish-requires-clause-parts
finish-requires-clause-parts g c memory =
    all_joined g.S.Spread.owner g.F.StateForm.values (g.G.Gate.may_stop c.args.gate.now) c.in_ok-board.board c.args.best c.args.workers.items c.in_ok-own.own (view c.in_ok-own-2.own) c.in_ok-own.jobs.items
    c.in_ok-own-2.worked.items c.in_ok-own.ensures c.in_ok-own-2.ensures.worked c.in_ok-own-2.ensures.own.1 memory

pub returns : goal.returns
returns g c =
    is_round g.S.Spread.owner g.F.StateForm.values (g.G.Gate.may_stop c.args.gate.now) c.in_ok-board.board c.args.best c.args.workers.items c.in_ok-own.own (view c.in_ok-own-2.own) c.in_ok-own.jobs.items
    c.in_ok-own-2.worked.items c.in_ok-end.end c.in_ok-own.ensures c.in_ok-own-2.ensures.worked c.in_ok-own-2.ensures.own.1 c.in_ok-end.ensures.memory
    c.requires.least c.requires.bounded c.in_ok-end.ensures.workers c.in_ok-end.ensures.fault c.in_ok-end.ensures.best c.in_ok-end.ensures.seen
