use Rattle.std.proofs.Common.{ℕ, List, length, ap, ◌∙◌}
use Rattle.packed_spread.proofs.Projecting.{drawn_long}
use Rattle.packed_spread.proofs.words.projected_words_of.Goals as goal

pub clear_others-requires-clause-words : goal.clear_others-requires-clause-words
clear_others-requires-clause-words c =
    ap (λ (ws : List ℕ). length ws) (c.deref_mut.ensures.value ∙ c.in_ok-words.ensures.words) ∙ drawn_long c.args.task.now
