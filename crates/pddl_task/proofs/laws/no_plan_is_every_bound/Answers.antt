use Rattle.std.proofs.Common.{◌+◌, arith}
use Rattle.pddl_task.specs.Plans.{total_cost}
use Rattle.pddl_task.proofs.laws.no_plan_is_every_bound.Goals as goal

-- the cost of a valid plan is not at least one more than itself
pub returns : goal.returns
returns c =
    λ task. (
      λ none n plan valid. absurd (none plan valid),
      λ each plan valid. let above = each (total_cost plan + 1) plan valid in omega arith,
    )
