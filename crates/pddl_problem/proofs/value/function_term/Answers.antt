use Rattle.std.proofs.Common.{arith}
use Rattle.pddl_syntax.proofs.Trees.{noting}
use Rattle.pddl_syntax.specs.Faults.{first_of}
use Rattle.pddl_problem.proofs.value.function_term.Goals as goal

pub returns-then-ne-clause-faults : goal.returns-then-ne-clause-faults
unfolding first_of
returns-then-ne-clause-faults c = grind (arith, noting)

pub returns-then-is_total_cost-clause-faults : goal.returns-then-is_total_cost-clause-faults
unfolding first_of
returns-then-is_total_cost-clause-faults c = grind (arith, noting)

pub returns-clause-faults : goal.returns-clause-faults
unfolding first_of
returns-clause-faults c = grind (arith, noting)
