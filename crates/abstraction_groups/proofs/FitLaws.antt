-- The changes of an operator fit the digits of the abstraction.
use Rattle.std.proofs.Common.{◌≡◌, ℕ, ◌*◌, ◌^◌, ◌<◌, ◌≤◌, List, [], ◌∷◌, refl, ap, arith}
use Rattle.std.specs.Prelude.{All, slice_index}
use Rattle.std.proofs.lemmas.List.Elements.{All-head, All-tail, All-cons, All-nil}
use Rattle.std.proofs.lemmas.Nat.{mul-le}
use Rattle.fdr.specs.Tasks.{Operator, IsOperator}
use Rattle.abstraction.specs.Projections.{size_of}
use Rattle.abstraction.proofs.DigitLaws.{size_positive}
use Rattle.abstraction.specs.Digits.{IsDigitBelow, digits_from}
use Rattle.abstraction_groups.specs.Changes.{change_of, plain, at_digits, IsFit, size_by}
use Rattle.abstraction_groups.specs.ChangeLaws.{changes_at, change_of_fits, plain_fits}
use Rattle.abstraction_groups.specs.Pairs.{IsChain, IsRow}

-- digits of positive ranges along the pattern
module _ (rs : List ℕ) where
  pub digit_below : (w p : ℕ) (ps : List ℕ) → 0 < w → All (λ p. 0 < slice_index rs p) (p ∷ ps) → w * size_of rs (p ∷ ps) ≤ 2 ^ 24 → IsDigitBelow (2 ^ 24) (record { weight = w; range = slice_index rs p })
  digit_below w p ps l all small =
      let rest = size_positive rs ps (All-tail (λ p. 0 < slice_index rs p) p ps all) in
      record {
        weight = l;
        range = All-head (λ p. 0 < slice_index rs p) p ps all;
        within = omega (arith, mul-le (slice_index rs p * w) 1 (slice_index rs p * w) (size_of rs ps) (omega arith) (omega arith));
      }

  pub next_weight : (w p : ℕ) (ps : List ℕ) → 0 < w → All (λ p. 0 < slice_index rs p) (p ∷ ps) → 0 < w * slice_index rs p
  next_weight w p ps l all =
      let some = All-head (λ p. 0 < slice_index rs p) p ps all in omega (arith, mul-le 1 1 w (slice_index rs p) (omega arith) (omega arith))

module _ (rs : List ℕ) (op : Operator) (is : IsOperator rs op) where
  pub size_told : (w : ℕ) (ps : List ℕ) → size_by (at_digits (digits_from rs w ps) (changes_at rs op is ps)) ≡ size_of rs ps
  size_told w [] = refl
  size_told w (p ∷ ps) = ap (λ (n : ℕ). slice_index rs p * n) (size_told (w * slice_index rs p) ps)

  pub chain_told : (w : ℕ) (ps : List ℕ) → IsChain w (at_digits (digits_from rs w ps) (changes_at rs op is ps))
  chain_told w [] = tt
  chain_told w (p ∷ ps) = (refl, chain_told (w * slice_index rs p) ps)

  changes_fit : (w : ℕ) (ps : List ℕ) → 0 < w → All (λ p. 0 < slice_index rs p) ps → w * size_of rs ps ≤ 2 ^ 24 → All IsFit (at_digits (digits_from rs w ps) (changes_at rs op is ps))
  changes_fit w [] l all small = All-nil IsFit
  changes_fit w (p ∷ ps) l all small =
      All-cons IsFit (record { digit = record { weight = w; range = slice_index rs p }; change = plain (slice_index rs p) (change_of op p) }) (at_digits (digits_from rs (w * slice_index rs p) ps) (changes_at rs op is ps))
      (record {
        digit = digit_below rs w p ps l all small;
        change = plain_fits (slice_index rs p) (change_of op p) (change_of_fits rs op is p);
      })
      (changes_fit (w * slice_index rs p) ps (next_weight rs w p ps l all) (All-tail (λ p. 0 < slice_index rs p) p ps all) (omega arith))

  pub row_is : (ps : List ℕ) → All (λ p. 0 < slice_index rs p) ps → size_of rs ps ≤ 2 ^ 24 → IsRow (at_digits (digits_from rs 1 ps) (changes_at rs op is ps))
  row_is ps all small =
      record {
        fit = changes_fit 1 ps (omega arith) all (omega arith);
        small = rw (size_told 1 ps) small;
        chain = chain_told 1 ps;
      }
