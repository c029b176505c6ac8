use Rattle.engine_round.specs.Turns.{IsAtWork}
use Rattle.engine_round.proofs.work.work.Given as goal

abbrev pub invariant-loop : goal.invariant-loop
invariant-loop g l = IsAtWork l.board l.fn.seat l.fn.worker l.seat l.worker
