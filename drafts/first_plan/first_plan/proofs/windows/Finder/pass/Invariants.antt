use Rattle.std.proofs.Common.{◌≡◌}
use Rattle.fdr.specs.Tasks.{ranges, IsState}
use Rattle.first_plan.proofs.windows.Finder.pass.Given as goal

abbrev pub invariant-loop : goal.invariant-loop
invariant-loop g l = record {
  same : l.self ≡ l.initial.self;
  state : IsState (ranges l.initial.self) l.state;
}
