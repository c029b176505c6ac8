-- Shares subtracted one after the other.
use Rattle.std.proofs.Common.{◌≡◌, ℕ, ◌-◌, ◌<◌, ◌≤◌, List, [], ◌∷◌, map, length, refl, ◌∙◌, arith, ne_eqb, eq-eqb, ⊎_elim}
use Rattle.std.specs.Prelude.{slice_index, slice_set, All}
use Rattle.std.proofs.lemmas.Bool.{cases_eq}
use Rattle.std.proofs.lemmas.List.{get_or_past, get_or-set_same, get_or-set_other, length-set}
use Rattle.std.proofs.lemmas.List.Elements.{All-head, All-tail}
use Rattle.cert_value.specs.declared.table.Share.{Share}
use Rattle.checker_clauses.specs.Clauses.{share_of}
use Rattle.cert_value.specs.Lawful.{IsIncreasing}

abbrev operators : List Share → List ℕ
operators ss = map (λ s. s.operator) ss

without_second : (m n : ℕ) (ns : List ℕ) → IsIncreasing (m ∷ n ∷ ns) → IsIncreasing (m ∷ ns)
without_second m n [] h = tt
without_second m n (k ∷ ns) h = (omega (arith, h.0, h.1.0), h.1.1)

pub rest_increasing : (s : Share) (ss : List Share) → IsIncreasing (operators (s ∷ ss)) → IsIncreasing (operators ss)
rest_increasing s [] h = tt
rest_increasing s (t ∷ ss) h = h.1

-- an operator below all that are listed has no share
none_above : (n : ℕ) (ss : List Share) → IsIncreasing (n ∷ operators ss) → share_of ss n ≡ 0
none_above n [] h = refl
none_above n (s ∷ ss) h = rw (ne_eqb s.operator n (λ e. absurd (omega (arith, e, h.0)))) (none_above n ss (without_second n s.operator (operators ss) h))

-- the shares that are not among the last ones are subtracted
pub record AreTaken (start left : List ℕ) (shares rest : List Share) : Type 0 where
  pub len : length left ≡ length start
  pub increasing : IsIncreasing (operators rest)
  pub same : (o : ℕ) → slice_index left o - share_of rest o ≡ slice_index start o - share_of shares o

module _ (start left : List ℕ) (shares : List Share) (s : Share) (ss : List Share) (taken : AreTaken start left shares (s ∷ ss)) where
  next_taken : (rest : List ℕ) → length rest ≡ length left → slice_index rest s.operator ≡ slice_index left s.operator - s.amount
      → ((o : ℕ) → (o ≡ s.operator → ⊥) → slice_index rest o ≡ slice_index left o) → AreTaken start rest shares ss
  next_taken rest long there elsewhere = record {
    len = long ∙ taken.len;
    increasing = rest_increasing s ss taken.increasing;
    same = λ o. step o ∙ taken.same o;
  }
    where
      step : (o : ℕ) → slice_index rest o - share_of ss o ≡ slice_index left o - share_of (s ∷ ss) o
      step o = ⊎_elim
          (λ (e : o ≡ s.operator). rw (e, eq-eqb s.operator s.operator refl) (omega (arith, there, none_above s.operator ss taken.increasing)))
          (λ (other : o ≡ s.operator → ⊥). rw (ne_eqb s.operator o (λ e. other (cc e)), elsewhere o other) refl)
          (cases_eq o s.operator)

  pub taken_within : s.operator < length left → AreTaken start (slice_set left s.operator (slice_index left s.operator - s.amount)) shares ss
  taken_within l =
      next_taken _ (length-set left s.operator _) (get_or-set_same left s.operator _ 0 l) (λ o other. get_or-set_other left s.operator o _ 0 other)

  -- an operator past the end has nothing left
  pub taken_past : length left ≤ s.operator → AreTaken start left shares ss
  taken_past l = next_taken left refl (omega (arith, get_or_past left s.operator 0 l)) (λ o other. refl)

-- ---- shares that are left

-- where at least each listed amount is left, at least each share is
pub shares_left : (left : List ℕ) (ss : List Share) → All (λ s. s.amount ≤ slice_index left s.operator) ss → (o : ℕ) → share_of ss o ≤ slice_index left o
shares_left left [] all o = omega arith
shares_left left (s ∷ ss) all o = ⊎_elim
    (λ (e : s.operator ≡ o). rw (eq-eqb s.operator o e) (rw e at (All-head (λ (t : Share). t.amount ≤ slice_index left t.operator) s ss all)))
    (λ (other : s.operator ≡ o → ⊥). rw (ne_eqb s.operator o other) (shares_left left ss (All-tail (λ (t : Share). t.amount ≤ slice_index left t.operator) s ss all) o))
    (cases_eq s.operator o)
