use Rattle.std.proofs.Common.{◌≡◌, map}
use Rattle.std.specs.List.{range_with_len}
use Rattle.pdb_patterns.specs.GoalClasses.{goal_class}
use Rattle.pdb_patterns.proofs.domains.classes_of.Given as goal

abbrev pub invariant-loop-value : goal.invariant-loop-value
invariant-loop-value l = l.classes.items ≡ map (goal_class l.limit l.goal) (range_with_len 0 l.value)
