use Rattle.std.proofs.Common.{◌≡◌, ℕ, List, [], ◌∷◌, length, inl, inr, refl, ap, arith}
use Rattle.std.specs.Prelude.{codes}
use Rattle.optplan_optimal.specs.Plans.{ClaimsUnsolvable}
use Rattle.optplan_optimal.proofs.laws.worked_claims.Goals as goal

abbrev first : List ℕ → ℕ
first [] = 0
first (x ∷ xs) = x

in_capitals : ClaimsUnsolvable (codes "Unsolvable") → ⊥
in_capitals (inl e) = let h : 85 ≡ 117 = ap first e in omega (arith, h)
in_capitals (inr e) = let h : 85 ≡ 117 = ap first e in omega (arith, h)

with_two_feeds : ClaimsUnsolvable (codes "unsolvable\n\n") → ⊥
with_two_feeds (inl e) = let h : 12 ≡ 10 = ap (λ (t : List ℕ). length t) e in omega (arith, h)
with_two_feeds (inr e) = let h : 12 ≡ 11 = ap (λ (t : List ℕ). length t) e in omega (arith, h)

empty : ClaimsUnsolvable (codes "") → ⊥
empty (inl e) = let h : 0 ≡ 10 = ap (λ (t : List ℕ). length t) e in omega (arith, h)
empty (inr e) = let h : 0 ≡ 11 = ap (λ (t : List ℕ). length t) e in omega (arith, h)

pub returns-clause-claims : goal.returns-clause-claims
returns-clause-claims c = (inl refl, inr refl)

pub returns-clause-others : goal.returns-clause-others
returns-clause-others c = (in_capitals, with_two_feeds, empty)
