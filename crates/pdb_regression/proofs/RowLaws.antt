-- The pattern's digits, and changes along them.
use Rattle.std.proofs.Common.{◌≡◌, ℕ, ◌*◌, ◌^◌, ◌<◌, ◌≤◌, List, [], ◌∷◌, map, refl, ap, ◌∙◌, arith}
use Rattle.std.specs.Prelude.{All, slice_index}
use Rattle.std.proofs.lemmas.List.Elements.{All-head, All-tail, All-cons, All-nil}
use Rattle.fdr.specs.Tasks.{ranges}
use Rattle.abstraction.specs.Projections.{Projection, size_of}
use Rattle.abstraction.specs.Digits.{IsDigitBelow, digits_from}
use Rattle.abstraction_groups.specs.declared.change.DigitChange.{DigitChange}
use Rattle.abstraction_groups.specs.Changes.{size_by}
use Rattle.abstraction_groups.specs.FactorLaws.{projection_factored}
use Rattle.abstraction_groups.proofs.FitLaws.{digit_below, next_weight}
use Rattle.pdb_regression.specs.Tables.{IsAlong}

module _ (rs : List ℕ) where
  pub digits_fit : (w : ℕ) (ps : List ℕ) → 0 < w → All (λ p. 0 < slice_index rs p) ps → w * size_of rs ps ≤ 2 ^ 24 → All (IsDigitBelow (2 ^ 24)) (digits_from rs w ps)
  digits_fit w [] l all small = All-nil (IsDigitBelow (2 ^ 24))
  digits_fit w (p ∷ ps) l all small =
      All-cons (IsDigitBelow (2 ^ 24)) (record { weight = w; range = slice_index rs p }) (digits_from rs (w * slice_index rs p) ps) (digit_below rs w p ps l all small)
      (digits_fit (w * slice_index rs p) ps (next_weight rs w p ps l all) (All-tail (λ p. 0 < slice_index rs p) p ps all) (omega arith))

pub projection_digits : (p : Projection) → All (IsDigitBelow (2 ^ 24)) (digits_from (ranges p.task) 1 p.pattern)
projection_digits p = let small = p.small in digits_fit (ranges p.task) 1 p.pattern (omega arith) (projection_factored p).positive (omega arith)

-- the digits of changes along the pattern's digits
pub along_size : (rs : List ℕ) (w : ℕ) (ps : List ℕ) (cs : List DigitChange) → IsAlong (digits_from rs w ps) cs → size_by cs ≡ size_of rs ps
along_size rs w [] [] e = refl
along_size rs w [] (c ∷ cs) e = absurd (cc)
along_size rs w (p ∷ ps) [] e = absurd (cc)
along_size rs w (p ∷ ps) (c ∷ cs) e =
    let here : c.digit.range ≡ slice_index rs p = cc in
    let rest : map (λ c. c.digit) cs ≡ digits_from rs (w * slice_index rs p) ps = cc in
    ap (λ (n : ℕ). n * size_by cs) here ∙ ap (λ (n : ℕ). slice_index rs p * n) (along_size rs (w * slice_index rs p) ps cs rest)
