use Rattle.std.proofs.Common.{◌≡◌, ◌≤◌}
use Rattle.first_plan.proofs.windows.find_cheapest.Given as goal

abbrev pub invariant-loop : goal.invariant-loop
invariant-loop g l = record {
  search : l.search ≡ l.initial.search;
  expander : l.expander ≡ l.initial.expander;
  few : l.expansions ≤ l.limit;
}
