use Rattle.pddl_grammar.proofs.ConditionTrees.{trees_spelled}
use Rattle.pddl_grammar.proofs.laws.conditions_without_fault_are_trees.Goals as goal

pub returns : goal.returns
returns c = trees_spelled
