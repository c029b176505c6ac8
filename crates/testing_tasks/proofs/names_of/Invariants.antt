use Rattle.std.proofs.Common.{◌≡◌, ◌++◌, drop}
use Rattle.fdr.specs.Tasks.{names_in}
use Rattle.testing_tasks.specs.SmallTasks.{blank_names}
use Rattle.testing_tasks.proofs.names_of.Given as goal

abbrev pub invariant-loop-range : goal.invariant-loop-range
invariant-loop-range l = names_in l.names.items ++ blank_names (drop l.range-index l.ranges) ≡ blank_names l.ranges
