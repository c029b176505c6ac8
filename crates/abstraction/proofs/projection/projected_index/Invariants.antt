use Rattle.std.proofs.Common.{◌≡◌, ◌<◌, take}
use Rattle.fdr.specs.Tasks.{ranges}
use Rattle.abstraction.specs.Projections.{size_of, index_of}
use Rattle.abstraction.proofs.projection.projected_index.Given as goal

abbrev pub invariant-loop-place : goal.invariant-loop-place
invariant-loop-place l =
    record {
      index : l.index ≡ index_of (ranges l.task) (take l.place l.pattern) l.state;
      below : l.index < size_of (ranges l.task) (take l.place l.pattern);
    }
