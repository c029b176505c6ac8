use Rattle.std.proofs.Common.{◌≡◌, ◌+◌, ◌<◌, ◌^◌, drop}
use Rattle.pddl_task.specs.Planning.{sum_of_increases}
use Rattle.pddl_task.proofs.task.Task.sum_of.Given as goal

abbrev pub invariant-loop-increase : goal.invariant-loop-increase
invariant-loop-increase l = record {
  so_far : l.sum + sum_of_increases l.self l.objects (drop l.increase-index l.increases) ≡ sum_of_increases l.self l.objects l.increases;
  fits : l.sum < 2 ^ 64;
}
