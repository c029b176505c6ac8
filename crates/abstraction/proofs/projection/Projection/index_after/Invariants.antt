use Rattle.std.proofs.Common.{◌≡◌, ◌<◌, drop}
use Rattle.fdr.specs.Tasks.{ranges}
use Rattle.abstraction.specs.Projections.{size_of, index_after}
use Rattle.abstraction.proofs.projection.Projection.index_after.Given as goal

abbrev pub invariant-loop-fact : goal.invariant-loop-fact
invariant-loop-fact l =
    record {
      index_after : index_after (ranges l.self.task) l.self.pattern l.next (drop l.fact-index l.effect) ≡ index_after (ranges l.self.task) l.self.pattern l.abstract_state l.effect;
      below : l.next < size_of (ranges l.self.task) l.self.pattern;
    }
