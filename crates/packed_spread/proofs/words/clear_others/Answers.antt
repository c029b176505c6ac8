use Rattle.std.proofs.Common.{ℕ, List, length, ap, sym, ◌∙◌}
use Rattle.fdr.specs.Tasks.{ranges}
use Rattle.packed_spread.specs.Projections.{cleared_unless}
use Rattle.packed_spread.proofs.Projecting.{fold_to, cleared_unless_long}
use Rattle.packed_spread.proofs.words.clear_others.Goals as goal

pub loop-variable-preserved : goal.loop-variable-preserved
loop-variable-preserved c =
    let rs = ranges c.args.task.now in
    let chosen = c.args.chosen.now in
    let v = c.loop-variable.variable in
    record {
      words =
          c.clear_unless_chosen.ensures.words
          ∙ ap (λ (ws : List ℕ). cleared_unless rs chosen ws v) c.loop-variable.invariant.words
          ∙ sym (fold_to (cleared_unless rs chosen) c.args.words.now v);
      long =
          ap (λ (ws : List ℕ). length ws) c.clear_unless_chosen.ensures.words
          ∙ cleared_unless_long rs chosen c.loop-variable.words v ∙ c.loop-variable.invariant.long;
    }
