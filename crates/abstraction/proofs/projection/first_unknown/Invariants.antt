use Rattle.std.proofs.Common.{take}
use Rattle.fdr.specs.Tasks.{ranges}
use Rattle.abstraction.specs.Projections.{AllExist}
use Rattle.abstraction.proofs.projection.first_unknown.Given as goal

abbrev pub invariant-loop-place : goal.invariant-loop-place
invariant-loop-place l = AllExist (ranges l.task) (take l.place l.pattern)
