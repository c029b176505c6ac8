use Rattle.std.proofs.Common.{arith}
use Rattle.sexp.proofs.Walking.{walking}
use Rattle.pddl_problem.proofs.value.is_positive_number.Goals as goal

pub returns-in-Whole : goal.returns-in-Whole
returns-in-Whole c = grind (arith, walking)

pub returns-in-Fraction : goal.returns-in-Fraction
returns-in-Fraction c = grind (arith, walking)

pub returns-in-List : goal.returns-in-List
returns-in-List c = grind (arith, walking)
