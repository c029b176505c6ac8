use Rattle.std.proofs.Common.{◌≡◌}
use Rattle.first_plan.proofs.windows.Finder.improve.Given as goal

abbrev pub invariant-loop : goal.invariant-loop
invariant-loop g l = l.self ≡ l.initial.self
