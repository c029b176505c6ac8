use Rattle.std.proofs.Common.{◌≡◌}
use Rattle.first_plan.proofs.find.Finder.exhaust.Given as goal

abbrev pub invariant-loop : goal.invariant-loop
invariant-loop g l = record {
  same : l.self ≡ l.initial.self;
  search : l.search ≡ l.initial.search;
}
