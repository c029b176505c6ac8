use Rattle.std.proofs.Common.{◌≡◌, ◌++◌, map, drop}
use Rattle.testing_tasks.specs.SmallTasks.{step_operator}
use Rattle.testing_tasks.proofs.walk.Given as goal

abbrev pub invariant-loop-from : goal.invariant-loop-from
invariant-loop-from l = l.operators.items ++ map step_operator (drop l.from-index l.steps) ≡ map step_operator l.steps
