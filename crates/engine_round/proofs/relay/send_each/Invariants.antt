use Rattle.worker.specs.Turns.{chained, SendsTo}
use Rattle.engine_round.proofs.relay.send_each.Given as goal

abbrev pub invariant-loop-to : goal.invariant-loop-to
invariant-loop-to g l = chained (SendsTo g.F.StateForm.values) l.to l.fn.worker l.worker
