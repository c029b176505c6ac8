use Rattle.std.proofs.Common.{◌≡◌}
use Rattle.first_plan_search.proofs.search.Search.push_reached.Given as goal

abbrev pub invariant-loop-position : goal.invariant-loop-position
invariant-loop-position g l = l.self ≡ l.initial.self
