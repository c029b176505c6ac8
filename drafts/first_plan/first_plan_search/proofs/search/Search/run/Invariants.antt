use Rattle.std.proofs.Common.{◌≡◌}
use Rattle.first_plan_search.proofs.search.Search.run.Given as goal

abbrev pub invariant-loop-done : goal.invariant-loop-done
invariant-loop-done g l = record {
  search : l.self ≡ l.initial.self;
  expander : l.expander ≡ l.initial.expander;
}
