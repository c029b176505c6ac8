use Rattle.std.proofs.Common.{◌≡◌, ℕ, ◌+◌, ◌^◌, ◌≤◌, length, drop}
use Rattle.fdr.specs.Tasks.{state_after, plan_cost}
use Rattle.first_plan_search.proofs.plan.replay.Given as goal

abbrev pub invariant-loop-operator : goal.invariant-loop-operator
invariant-loop-operator l = record {
  as_long : length l.state.items ≡ length l.task.value_names;
  run : state_after l.task l.state.items (drop l.operator-index l.operators) ≡ state_after l.task l.task.initial l.operators;
  cost : l.total + plan_cost l.task (drop l.operator-index l.operators) ≡ plan_cost l.task l.operators;
  small : l.total ≤ 2 ^ 62;
}
