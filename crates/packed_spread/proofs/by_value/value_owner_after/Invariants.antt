use Rattle.std.proofs.Common.{◌≡◌, drop, fold, get_or}
use Rattle.packed_spread.proofs.Changes.{first_after}
use Rattle.packed_spread.proofs.by_value.value_owner_after.Given as goal

abbrev pub invariant-loop-fact : goal.invariant-loop-fact
invariant-loop-fact l = fold first_after l.value (drop l.fact-index l.facts) ≡ fold first_after (get_or l.state 0 0) l.facts
