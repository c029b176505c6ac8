use Rattle.std.proofs.Common.{◌≡◌, ◌++◌, length, map, drop}
use Rattle.fdr.specs.Tasks.{names_in}
use Rattle.testing_tasks.proofs.ranges_of.Given as goal

abbrev pub invariant-loop-values : goal.invariant-loop-values
invariant-loop-values l = l.ranges.items ++ map length (names_in (drop l.values-index l.names)) ≡ map length (names_in l.names)
