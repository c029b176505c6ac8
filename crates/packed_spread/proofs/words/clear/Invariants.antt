use Rattle.std.proofs.Common.{◌≡◌, length}
use Rattle.packed_spread.specs.Projections.{cleared}
use Rattle.packed_spread.proofs.words.clear.Given as goal

abbrev pub invariant-loop-value : goal.invariant-loop-value
invariant-loop-value l =
    record {
      words : l.words ≡ cleared l.fn.words l.first l.value;
      long : length l.words ≡ length l.fn.words;
    }
