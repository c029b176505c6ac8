use Rattle.std.proofs.Common.{ℕ, List, length, ap, ◌∙◌}
use Rattle.fdr.specs.Tasks.{ranges}
use Rattle.packed_spread.proofs.Places.{as_many_firsts, word_exists}
use Rattle.packed_spread.proofs.zobrist.ZobristSpread.hash_of.Goals as goal

pub hash_of-requires-clause-long : goal.hash_of-requires-clause-long
hash_of-requires-clause-long c =
    as_many_firsts (ranges c.self.inside.task.now) c.deref-2.result.now c.args.state.now
    (c.deref-2.ensures.value ∙ c.self.invariant.1) (rw (← c.self.view_is) at c.requires)

pub hash_of-requires-clause-exist : goal.hash_of-requires-clause-exist
hash_of-requires-clause-exist c =
    word_exists (ranges c.self.inside.task.now) c.deref.result.now c.deref-2.result.now c.args.state.now
    (ap (λ (ws : List ℕ). length ws) c.deref.ensures.value ∙ c.self.invariant.0)
    (c.deref-2.ensures.value ∙ c.self.invariant.1) (rw (← c.self.view_is) at c.requires)
