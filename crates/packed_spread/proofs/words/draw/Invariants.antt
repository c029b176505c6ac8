use Rattle.std.proofs.Common.{◌≡◌, ◌+◌, length}
use Rattle.packed_spread.specs.Drawn.{IsDrawn}
use Rattle.packed_spread.proofs.words.draw.Given as goal

abbrev pub invariant-loop : goal.invariant-loop
invariant-loop l = record {
  drawn : IsDrawn 1 l.words.items l.generator;
  count : length l.words.items ≡ length l.initial.words.items + l.counter;
}
