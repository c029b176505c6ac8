use Rattle.engine.specs.Steps.{IsReadyIn}
use Rattle.engine.proofs.searches.search.Given as goal

abbrev pub invariant-loop : goal.invariant-loop
invariant-loop g l = IsReadyIn l.fn.space l.fn.workers l.team
