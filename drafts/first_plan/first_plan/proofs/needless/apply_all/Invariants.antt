use Rattle.std.proofs.Common.{◌≡◌, length}
use Rattle.first_plan.proofs.needless.apply_all.Given as goal

abbrev pub invariant-loop-operator : goal.invariant-loop-operator
invariant-loop-operator l = length l.state ≡ length l.task.value_names
