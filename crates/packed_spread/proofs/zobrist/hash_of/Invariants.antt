use Rattle.std.proofs.Common.{◌≡◌, map, fold}
use Rattle.std.specs.List.{range_with_len}
use Rattle.std.specs.Prelude.{bit_xor}
use Rattle.packed_spread.specs.Spreads.{word_of}
use Rattle.packed_spread.proofs.zobrist.hash_of.Given as goal

abbrev pub invariant-loop-variable : goal.invariant-loop-variable
invariant-loop-variable l = l.hash ≡ fold bit_xor 0 (map (word_of l.words l.firsts l.state) (range_with_len 0 l.variable))
