use Rattle.std.proofs.Common.{◌+◌, ℕ, List, ap, sym, ◌∙◌, length-set}
use Rattle.std.specs.Prelude.{slice_set}
use Rattle.packed_spread.proofs.Projecting.{fold_to}
use Rattle.packed_spread.proofs.words.clear.Goals as goal

pub loop-value-preserved : goal.loop-value-preserved
loop-value-preserved c =
    let place = c.args.first + c.loop-value.value in
    record {
      words =
          ap (λ (ws : List ℕ). slice_set ws place 0) c.loop-value.invariant.words
          ∙ sym (fold_to (λ (ws : List ℕ) (value : ℕ). slice_set ws (c.args.first + value) 0) c.args.words.now c.loop-value.value);
      long = length-set c.loop-value.words place 0 ∙ c.loop-value.invariant.long;
    }
