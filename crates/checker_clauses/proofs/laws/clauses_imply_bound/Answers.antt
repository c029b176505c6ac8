use Rattle.std.proofs.Common.{subst}
use Rattle.fdr.specs.Tasks.{EveryPlanCostsAtLeast}
use Rattle.checker_clauses.proofs.Bounds.{held_implies_bound}
use Rattle.checker_clauses.proofs.laws.clauses_imply_bound.Goals as goal

pub returns-clause-bound : goal.returns-clause-bound
returns-clause-bound c task cert well held = held_implies_bound task well cert held

pub returns-clause-none : goal.returns-clause-none
returns-clause-none c task cert well held infinite = subst (EveryPlanCostsAtLeast task) infinite (held_implies_bound task well cert held)
