use Rattle.std.proofs.Common.{ℕ, List, length, ap, ◌∙◌}
use Rattle.packed_spread.proofs.Projecting.{projected_words_long}
use Rattle.packed_spread.proofs.zobrist.Zobrist.projected.Goals as goal

pub invariant_of-result : goal.invariant_of-result
invariant_of-result c = (
  ap (λ (ws : List ℕ). length ws) c.in_ok-made.ensures.words ∙ projected_words_long c.args.task.now,
  c.in_ok-made.ensures.firsts,
)
