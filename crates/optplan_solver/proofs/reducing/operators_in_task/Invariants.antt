use Rattle.std.proofs.Common.{◌≡◌, take}
use Rattle.reduction.specs.Reductions.{in_task}
use Rattle.optplan_solver.proofs.reducing.operators_in_task.Given as goal

abbrev pub invariant-loop-index : goal.invariant-loop-index
invariant-loop-index l = l.operators.items ≡ in_task l.retained (take l.index-index l.indices)
