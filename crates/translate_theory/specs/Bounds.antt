-- Lower bounds on the costs of the plans of a planning task.
use Rattle.std.specs.Prelude.{List}
use Rattle.cost.specs.Distances.{Distance, Finite, ◌≤ᵈ◌}
use Rattle.pddl_task.specs.Planning.{PlanningTask, Action}
use Rattle.pddl_task.specs.Plans.{IsValidPlan, total_cost}

-- every valid plan costs at least the bound; if the bound is infinite, there is no valid plan
abbrev pub ValidPlansCostAtLeast : PlanningTask → Distance → Type 0
ValidPlansCostAtLeast task bound = (plan : List Action) → IsValidPlan task plan → bound ≤ᵈ Finite (total_cost plan)
