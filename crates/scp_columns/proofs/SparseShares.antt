-- The shares that are not 0, in the order of operators.
use Rattle.std.proofs.Common.{◌≡◌, ℕ, ◌+◌, ◌<◌, ◌≤◌, ◌^◌, List, [], ◌∷◌, ◌++◌, length, refl, sym, ap, ◌∙◌, arith, cond, eqb, ne_eqb, eq-eqb, ⊎_elim, length-append, map}
use Rattle.std.specs.Prelude.{slice_index}
use Rattle.std.specs.List.{AllByRecursion}
use Rattle.std.proofs.lemmas.Bool.{cases_lt}
use Rattle.std.proofs.lemmas.List.{get_or_past}
use Rattle.cert_value.specs.declared.table.Share.{Share}
use Rattle.checker_clauses.specs.Clauses.{share_of}
use Rattle.cert_value.specs.Lawful.{IsShare, IsIncreasing, AreShares}

abbrev share : ℕ → ℕ → Share
share o a = record { operator = o; amount = a }

-- the shares of the operators below i
pub record AreSharesBelow (needed : List ℕ) (i : ℕ) (shares : List Share) : Type 0 where
  pub each : AllByRecursion IsShare shares
  pub increasing : IsIncreasing (map (λ s. s.operator) shares)
  pub below : AllByRecursion (λ s. s.operator < i) shares
  pub few : length shares ≤ i
  pub same : (o : ℕ) → o < i → share_of shares o ≡ slice_index needed o
  pub none : (o : ℕ) → i ≤ o → share_of shares o ≡ 0

all_last : (P : Share → Type 0) (ss : List Share) (s : Share) → AllByRecursion P ss → P s → AllByRecursion P (ss ++ s ∷ [])
all_last P [] s all h = (h, tt)
all_last P (t ∷ ss) s all h = (all.0, all_last P ss s all.1 h)

all_raised : (i : ℕ) (ss : List Share) → AllByRecursion (λ s. s.operator < i) ss → AllByRecursion (λ s. s.operator < i + 1) ss
all_raised i [] all = tt
all_raised i (t ∷ ss) all = (omega (arith, all.0), all_raised i ss all.1)

increasing_last : (ss : List Share) (i a : ℕ) → IsIncreasing (map (λ s. s.operator) ss) → AllByRecursion (λ s. s.operator < i) ss → IsIncreasing (map (λ s. s.operator) (ss ++ share i a ∷ []))
increasing_last [] i a h below = tt
increasing_last (s ∷ []) i a h below = (below.0, tt)
increasing_last (s ∷ t ∷ ss) i a h below = (h.0, increasing_last (t ∷ ss) i a h.1 below.1)

share_other : (ss : List Share) (i a o : ℕ) → (i ≡ o → ⊥) → share_of (ss ++ share i a ∷ []) o ≡ share_of ss o
share_other [] i a o other = rw (ne_eqb i o other) refl
share_other (s ∷ ss) i a o other = ap (λ x. cond (eqb s.operator o) s.amount x) (share_other ss i a o other)

share_new : (ss : List Share) (i a : ℕ) → AllByRecursion (λ s. s.operator < i) ss → share_of (ss ++ share i a ∷ []) i ≡ a
share_new [] i a below = rw (eq-eqb i i refl) refl
share_new (s ∷ ss) i a below = rw (ne_eqb s.operator i (λ e. absurd (omega (arith, e, below.0)))) (share_new ss i a below.1)

pub none_yet : (needed : List ℕ) → AreSharesBelow needed 0 []
none_yet needed = record {
  each = tt;
  increasing = tt;
  below = tt;
  few = omega arith;
  same = λ o l. absurd (omega arith);
  none = λ o l. refl;
}

pub with_share : (needed : List ℕ) (i a : ℕ) (ss : List Share) → AreSharesBelow needed i ss → i < 2 ^ 32 → 0 < a → a < 2 ^ 31 → slice_index needed i ≡ a → AreSharesBelow needed (i + 1) (ss ++ share i a ∷ [])
with_share needed i a ss h short some small is = record {
  each = all_last IsShare ss (share i a) h.each (record { operator = short; least = omega arith; most = small });
  increasing = increasing_last ss i a h.increasing h.below;
  below = all_last (λ s. s.operator < i + 1) ss (share i a) (all_raised i ss h.below) (omega arith);
  few = omega (arith, h.few, length-append ss (share i a ∷ []));
  same = λ o l. ⊎_elim
      (λ (low : o < i). share_other ss i a o (λ e. absurd (omega (arith, e))) ∙ h.same o low)
      (λ (high : i ≤ o). let e : o ≡ i = omega arith in rw e (share_new ss i a h.below ∙ sym is))
      (cases_lt o i);
  none = λ o l. share_other ss i a o (λ e. absurd (omega (arith, e))) ∙ h.none o (omega arith);
}

pub without_share : (needed : List ℕ) (i : ℕ) (ss : List Share) → AreSharesBelow needed i ss → slice_index needed i ≡ 0 → AreSharesBelow needed (i + 1) ss
without_share needed i ss h is = record {
  each = h.each;
  increasing = h.increasing;
  below = all_raised i ss h.below;
  few = omega (arith, h.few);
  same = λ o l. ⊎_elim
      (λ (low : o < i). h.same o low)
      (λ (high : i ≤ o). let e : o ≡ i = omega arith in h.none o high ∙ rw e (sym is))
      (cases_lt o i);
  none = λ o l. h.none o (omega arith);
}

pub all_shares : (needed : List ℕ) (ss : List Share) → AreSharesBelow needed (length needed) ss → length needed < 2 ^ 32 → AreShares ss
all_shares needed ss h short = record { few = omega (arith, h.few); each = h.each; increasing = h.increasing }

pub all_same : (needed : List ℕ) (ss : List Share) → AreSharesBelow needed (length needed) ss → (o : ℕ) → share_of ss o ≡ slice_index needed o
all_same needed ss h o =
    ⊎_elim (λ (low : o < length needed). h.same o low) (λ (high : length needed ≤ o). h.none o high ∙ sym (get_or_past needed o 0 high)) (cases_lt o (length needed))
