use Rattle.std.proofs.Common.{◌≡◌, ◌++◌, ◌*◌, ◌^◌, ◌<◌, ◌≤◌, drop}
use Rattle.fdr.specs.Tasks.{ranges}
use Rattle.abstraction.specs.Projections.{size_of}
use Rattle.abstraction.specs.Digits.{digits_from}
use Rattle.abstraction_domain.specs.Domains.{variables, class_counts}
use Rattle.abstraction_domain.proofs.domain.digits_of.Given as goal

abbrev pub invariant-loop-place : goal.invariant-loop-place
invariant-loop-place l =
    record {
      digits : l.digits.items ++ digits_from (class_counts l.rows (ranges l.task)) l.size (drop l.place (variables l.rows)) ≡ digits_from (class_counts l.rows (ranges l.task)) 1 (variables l.rows);
      size : l.size * size_of (class_counts l.rows (ranges l.task)) (drop l.place (variables l.rows)) ≡ size_of (class_counts l.rows (ranges l.task)) (variables l.rows);
      some : 0 < l.size;
      small : l.size ≤ 2 ^ 24;
    }
