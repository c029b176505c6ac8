use Rattle.std.proofs.Common.{◌≡◌, ◌+◌, ◌*◌, ◌++◌, drop}
use Rattle.pdb_regression.specs.Rules.{unpacked}
use Rattle.pdb_regression.specs.Words.{word_from, rooms_of}
use Rattle.pdb_regression.proofs.word.read.Given as goal

abbrev pub invariant-loop-digit : goal.invariant-loop-digit
invariant-loop-digit l =
    record {
      values : l.values.items ++ unpacked l.above (drop l.digit-index l.digits) ≡ unpacked l.abstract_state l.digits;
      word : l.word + l.scale * word_from l.above (drop l.digit-index l.digits) ≡ word_from l.abstract_state l.digits;
      scale : l.scale * rooms_of (drop l.digit-index l.digits) ≡ rooms_of l.digits;
    }
