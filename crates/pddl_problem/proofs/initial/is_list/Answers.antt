use Rattle.std.proofs.Common.{arith}
use Rattle.sexp.proofs.Walking.{walking}
use Rattle.pddl_problem.proofs.initial.is_list.Goals as goal

pub returns-in-Word : goal.returns-in-Word
returns-in-Word c = grind (arith, walking)

pub returns-in-List : goal.returns-in-List
returns-in-List c = grind (arith, walking)
