use Rattle.pddl_grammar.proofs.ConditionTrees.{trees_faultless, trees_in_order}
use Rattle.pddl_grammar.proofs.laws.trees_are_read_in_order.Goals as goal

pub returns-clause-faultless : goal.returns-clause-faultless
returns-clause-faultless c = trees_faultless

pub returns-clause-meaning : goal.returns-clause-meaning
returns-clause-meaning c = trees_in_order
