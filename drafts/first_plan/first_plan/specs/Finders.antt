-- The search for a first plan.
use Rattle.std.specs.Prelude.{◌≡◌, Option, IfSome}
use Rattle.fdr.specs.Tasks.{FiniteDomainTask}
use Rattle.first_plan_search.specs.Replays.{IsPlanOf}
use Rattle.first_plan_search.specs.declared.plan.Plan.{Plan}

-- the expander is of the task, and the best plan is one
pub record IsFinder (task expanded : FiniteDomainTask) (best : Option Plan) : Type 0 where
  pub expander : expanded ≡ task
  pub best_is : IfSome best (λ p. IsPlanOf task p.operators.items p.cost)
