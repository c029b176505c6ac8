use Rattle.std.proofs.Common.{◌≡◌, length, take}
use Rattle.std.specs.Prelude.{All}
use Rattle.pdb_patterns.proofs.GoalValues.{IsNamed}
use Rattle.pdb_patterns.proofs.choice.goal_values.Given as goal

abbrev pub invariant-loop-fact : goal.invariant-loop-fact
invariant-loop-fact l = (length l.values.items ≡ length l.task.value_names) × All (IsNamed l.values.items) (take l.fact-index l.fact-items)
