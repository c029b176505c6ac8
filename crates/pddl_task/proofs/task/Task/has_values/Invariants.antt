use Rattle.std.proofs.Common.{◌≡◌, drop}
use Rattle.pddl_task.specs.Planning.{has_values}
use Rattle.pddl_task.proofs.task.Task.has_values.Given as goal

abbrev pub invariant-loop-increase : goal.invariant-loop-increase
invariant-loop-increase l = has_values l.self l.objects (drop l.increase-index l.increases) ≡ has_values l.self l.objects l.increases
