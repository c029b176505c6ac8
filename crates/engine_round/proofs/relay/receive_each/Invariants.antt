use Rattle.worker.specs.Turns.{chained, ReceivesFrom}
use Rattle.engine_round.proofs.relay.receive_each.Given as goal

abbrev pub invariant-loop-from : goal.invariant-loop-from
invariant-loop-from g l = chained (ReceivesFrom g.S.Spread.owner g.F.StateForm.values) l.from l.fn.worker l.worker
