use Rattle.std.proofs.Common.{◌≡◌, ◌++◌, ◌*◌, ◌^◌, ◌<◌, ◌≤◌, drop}
use Rattle.fdr.specs.Tasks.{ranges}
use Rattle.abstraction.specs.Projections.{size_of}
use Rattle.abstraction.specs.Digits.{digits_from}
use Rattle.abstraction.proofs.projection.digits_of.Given as goal

abbrev pub invariant-loop-place : goal.invariant-loop-place
invariant-loop-place l =
    record {
      digits : l.digits.items ++ digits_from (ranges l.task) l.size (drop l.place l.pattern) ≡ digits_from (ranges l.task) 1 l.pattern;
      size : l.size * size_of (ranges l.task) (drop l.place l.pattern) ≡ size_of (ranges l.task) l.pattern;
      some : 0 < l.size;
      small : l.size ≤ 2 ^ 24;
    }
