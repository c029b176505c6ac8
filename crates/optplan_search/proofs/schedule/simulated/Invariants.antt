use Rattle.optplan_search.specs.Schedules.{IsAfterWords}
use Rattle.optplan_search.proofs.Schedules.{IsUnderWay}
use Rattle.optplan_search.proofs.schedule.simulated.Given as goal

abbrev pub invariant-loop : goal.invariant-loop
invariant-loop g l = record {
  under_way : IsUnderWay g.S.Spread.owner l.space l.owners l.seed l.counter l.world;
  words : IsAfterWords l.seed l.counter l.generator;
}
