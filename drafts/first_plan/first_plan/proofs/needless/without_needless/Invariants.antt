use Rattle.std.proofs.Common.{◌≡◌, length}
use Rattle.first_plan.proofs.needless.without_needless.Given as goal

abbrev pub invariant-loop : goal.invariant-loop
invariant-loop l = record {
  state : length l.state.items ≡ length l.task.value_names;
  trial : length l.trial.items ≡ length l.task.value_names;
}
