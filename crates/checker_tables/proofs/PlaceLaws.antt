-- Which place of a clause goes first.
use Rattle.std.proofs.Common.{◌≡◌, ℕ, ◌<◌, false, List, ◌∷◌, eqb, ltb}
use Rattle.std.proofs.lemmas.Bool.{cond_both, eqb-true, ltb-true, false_from_ne_true}
use Rattle.checker_clauses.specs.Clauses.{comes_before}

-- a place does not come before another where its first number is no less and, if they are the same, the rest does not
pub no_earlier : (x y : ℕ) (xs ys : List ℕ) → (x < y → ⊥) → (x ≡ y → comes_before xs ys ≡ false) → comes_before (x ∷ xs) (y ∷ ys) ≡ false
no_earlier x y xs ys high rest =
    cond_both (eqb x y) (comes_before xs ys) (ltb x y) (λ b. b ≡ false)
    (λ e. rest (eqb-true x y e))
    (λ e. false_from_ne_true (ltb x y) (λ t. high (ltb-true x y t)))
