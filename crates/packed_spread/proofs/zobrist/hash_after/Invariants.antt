use Rattle.std.proofs.Common.{◌≡◌, drop, fold}
use Rattle.packed_spread.proofs.Changes.{with_word}
use Rattle.packed_spread.proofs.zobrist.hash_after.Given as goal

abbrev pub invariant-loop-fact : goal.invariant-loop-fact
invariant-loop-fact l =
    fold (with_word l.words l.firsts l.state) l.changed (drop l.fact-index l.facts) ≡ fold (with_word l.words l.firsts l.state) l.hash l.facts
