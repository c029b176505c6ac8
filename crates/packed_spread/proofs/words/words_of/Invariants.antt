use Rattle.std.proofs.Common.{◌≡◌, length, map, take, sum}
use Rattle.std.specs.List.{range_with_len}
use Rattle.fdr.specs.Tasks.{ranges}
use Rattle.packed_spread.specs.Drawn.{IsDrawn}
use Rattle.packed_spread.proofs.words.words_of.Given as goal

abbrev pub invariant-loop-variable : goal.invariant-loop-variable
invariant-loop-variable l = record {
  drawn : IsDrawn 1 l.words.items l.generator;
  count : length l.words.items ≡ sum (take l.variable (ranges l.task));
  firsts : l.firsts.items ≡ map (λ v. sum (take v (ranges l.task))) (range_with_len 0 l.variable);
}
