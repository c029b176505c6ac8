use Rattle.std.proofs.Common.{ℕ, List, length, ap, ◌∙◌}
use Rattle.fdr.specs.Tasks.{ranges}
use Rattle.packed_spread.proofs.Places.{as_many_firsts, word_exists, words_of_facts_exist}
use Rattle.packed_spread.proofs.zobrist.ZobristSpread.owner_after.Goals as goal

pub hash_after-changed-requires-clause-long : goal.hash_after-changed-requires-clause-long
hash_after-changed-requires-clause-long c =
    as_many_firsts (ranges c.self.inside.task.now) c.deref-2.result.now c.args.state.now
    (c.deref-2.ensures.value ∙ c.self.invariant.1) (rw (← c.self.view_is) at c.requires.state)

pub hash_after-changed-requires-clause-exist : goal.hash_after-changed-requires-clause-exist
hash_after-changed-requires-clause-exist c =
    word_exists (ranges c.self.inside.task.now) c.deref.result.now c.deref-2.result.now c.args.state.now
    (ap (λ (ws : List ℕ). length ws) c.deref.ensures.value ∙ c.self.invariant.0)
    (c.deref-2.ensures.value ∙ c.self.invariant.1) (rw (← c.self.view_is) at c.requires.state)

pub hash_after-changed-requires-clause-facts : goal.hash_after-changed-requires-clause-facts
hash_after-changed-requires-clause-facts c =
    words_of_facts_exist (ranges c.self.inside.task.now) c.deref.result.now c.deref-2.result.now c.args.facts.now
    (ap (λ (ws : List ℕ). length ws) c.deref.ensures.value ∙ c.self.invariant.0)
    (c.deref-2.ensures.value ∙ c.self.invariant.1) (rw (← c.self.view_is) at c.requires.facts.in_range)
