use Rattle.engine_round.specs.Turns.{IsRelaying}
use Rattle.engine_round.proofs.relay.pass_on.Given as goal

abbrev pub invariant-loop : goal.invariant-loop
invariant-loop g l = IsRelaying l.board l.fn.seat l.fn.worker l.seat l.worker
