use Rattle.std.proofs.Common.{◌≡◌, ◌<◌, take}
use Rattle.fdr.specs.Tasks.{ranges}
use Rattle.abstraction.specs.Projections.{size_of, index_of}
use Rattle.abstraction_domain.specs.Domains.{variables, class_counts, class_state}
use Rattle.abstraction_domain.proofs.domain.class_index.Given as goal

abbrev pub invariant-loop-place : goal.invariant-loop-place
invariant-loop-place l =
    record {
      index : l.index ≡ index_of (class_counts l.rows (ranges l.task)) (take l.place (variables l.rows)) (class_state l.rows l.state);
      below : l.index < size_of (class_counts l.rows (ranges l.task)) (take l.place (variables l.rows));
    }
