use Rattle.std.proofs.Common.{◌≡◌, take}
use Rattle.fdr.specs.Tasks.{ranges}
use Rattle.packed.proofs.layout.Layout.new.Given as goal

abbrev pub invariant-loop-variable : goal.invariant-loop-variable
invariant-loop-variable l = l.ranges.items ≡ take l.variable (ranges l.task)
