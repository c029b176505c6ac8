use Rattle.std.proofs.Common.{◌≡◌, length}
use Rattle.abstraction_groups.specs.Lists.{AreGoals}
use Rattle.abstraction_groups.proofs.listed.goals_of.Given as goal

abbrev pub invariant-loop-state : goal.invariant-loop-state
invariant-loop-state g l = record {
  long : length l.goals.items ≡ l.state;
  are : AreGoals (g.A.Abstraction.abstraction l.abstraction) l.goals.items;
}
