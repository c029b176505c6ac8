use Rattle.std.proofs.Common.{◌≡◌, length, fold}
use Rattle.std.specs.List.{range_with_len}
use Rattle.fdr.specs.Tasks.{ranges}
use Rattle.packed_spread.specs.Projections.{cleared_unless}
use Rattle.packed_spread.proofs.words.clear_others.Given as goal

abbrev pub invariant-loop-variable : goal.invariant-loop-variable
invariant-loop-variable l =
    record {
      words : l.words ≡ fold (cleared_unless (ranges l.task) l.chosen) l.fn.words (range_with_len 0 l.variable);
      long : length l.words ≡ length l.fn.words;
    }
