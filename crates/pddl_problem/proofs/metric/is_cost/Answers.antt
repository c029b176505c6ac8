use Rattle.std.proofs.Common.{arith}
use Rattle.sexp.proofs.Walking.{walking}
use Rattle.pddl_problem.proofs.metric.is_cost.Goals as goal

pub returns-in-Word : goal.returns-in-Word
returns-in-Word c = grind (arith, walking)

pub returns-in-empty : goal.returns-in-empty
returns-in-empty c = grind (arith, walking)

pub returns-then-is_word : goal.returns-then-is_word
returns-then-is_word c = grind (arith, walking)

pub returns-else-is_word : goal.returns-else-is_word
returns-else-is_word c = grind (arith, walking)
