use Rattle.std.proofs.Common.{◌≡◌, take}
use Rattle.fdr.specs.Tasks.{plan_cost}
use Rattle.optplan_search.proofs.found.cost_of_plan.Given as goal

abbrev pub invariant-loop-operator : goal.invariant-loop-operator
invariant-loop-operator l = l.cost ≡ plan_cost l.task (take l.operator-index l.plan)
