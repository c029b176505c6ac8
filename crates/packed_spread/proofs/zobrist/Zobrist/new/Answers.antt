use Rattle.std.proofs.Common.{ℕ, List, length, sum, ap, ◌∙◌}
use Rattle.fdr.specs.Tasks.{ranges}
use Rattle.packed_spread.proofs.Drawing.{words_count}
use Rattle.packed_spread.proofs.zobrist.Zobrist.new.Goals as goal

pub invariant_of-result : goal.invariant_of-result
invariant_of-result c = (
  ap (λ (ws : List ℕ). length ws) c.in_ok-made.ensures.words ∙ words_count (sum (ranges c.args.task.now)) 1,
  c.in_ok-made.ensures.firsts,
)
