use Rattle.std.proofs.Common.{◌≡◌, List, [], ◌∷◌, ◌++◌, ℕ, length, sym, ap, subst, ◌∙◌, arith}
use Rattle.std.proofs.lemmas.List.{length_push}
use Rattle.packed_spread.specs.Drawn.{IsDrawn}
use Rattle.packed_spread.proofs.Drawing.{drawn_more}
use Rattle.packed_spread.proofs.words.draw.Goals as goal

pub loop-preserved : goal.loop-preserved
loop-preserved c =
    let pushed : c.push.new.self.items ≡ c.loop.words.items ++ c.next_u64.result ∷ [] = c.in_ok-push.ensures.items in
    record {
      drawn =
          subst (λ (ws : List ℕ). IsDrawn 1 ws c.next_u64.new.self) (sym {A = List ℕ} pushed)
          (drawn_more 1 c.loop.words.items c.loop.generator c.next_u64.new.self c.next_u64.result
          c.loop.invariant.drawn c.next_u64.ensures);
      count = let long = ap (λ (ws : List ℕ). length ws) pushed ∙ length_push c.loop.words.items c.next_u64.result in omega arith;
    }
