-- The digits of a pattern give the projection to it.
use Rattle.std.proofs.Common.{◌≡◌, ℕ, zero, suc, ◌+◌, ◌-◌, ◌*◌, ◌/◌, ◌%◌, ◌<◌, ◌≤◌, Bool, true, false, List, [], ◌∷◌, length, take, get_or, Option, Some, None, refl, sym, ◌∙◌, arith, cond, eqb, div-one, ⊎_elim, ne_eqb, eq-eqb, Result, Err, nat_cmp}
use Rattle.std.specs.Prelude.{IfSome, option_map, slice_index, All, AllPairs}
use Rattle.std.specs.Option.{option_map_or}
use Rattle.std.specs.List.Sorted.{IsStrictlyIncreasing, IsBinarySearchResult}
use Rattle.std.proofs.lemmas.List.Sorted.{searched}
use Rattle.std.proofs.lemmas.List.{get_or_default}
use Rattle.std.proofs.Math.Nat.{div-div-eq-div-mul, mod-add-div, div-mul-le_self, mod-le, eq-or-lt_of_le}
use Rattle.std.proofs.lemmas.List.Elements.{All-head, All-tail}
use Rattle.std.proofs.lemmas.List.Kept.{AllPairs-from_increasing}
use Rattle.std.proofs.lemmas.Nat.{mul-le, mul-add-lt, div_below, mod_below}
use Rattle.std.proofs.lemmas.Bool.{cond_both, eqb-true, cases_eq, cases_lt}
use Rattle.fdr.specs.declared.fact.Fact.{Fact}
use Rattle.fdr.specs.Tasks.{IsInRange}
use Rattle.abstraction.specs.declared.digit.Digit.{Digit}
use Rattle.abstraction.specs.Projections.{size_of, agrees, index_after}
use Rattle.abstraction.specs.ProjectionLaws.{quotient, remainder, positive}
use Rattle.abstraction.specs.Digits.{higher_digit, digit_of, value_of, with_value, with_fact, IsDigitBelow}

-- a number less a part of it, and more of the same kind, one place higher
place_higher : (y r q w o x : ℕ) → o * w ≤ q → y + r * q - o * (r * w) + x * (r * w) ≡ y + r * (q - o * w + x * w)
place_higher y r q w o x l = let split : q ≡ o * w + (q - o * w) = omega arith in go (q - o * w) split
  where
    go : (z : ℕ) → q ≡ o * w + z → y + r * q - o * (r * w) + x * (r * w) ≡ y + r * (z + x * w)
    go z e = let whole : r * q ≡ o * (r * w) + r * z = rw e (omega arith) in omega (arith, whole)

value_higher : (r i : ℕ) (d : Digit) → value_of (higher_digit r d) i ≡ value_of d (i / r)
value_higher r i d = rw (div-div-eq-div-mul i r d.weight) refl

value_fits : (d : Digit) (i : ℕ) → value_of d i * d.weight ≤ i
value_fits d i = omega (arith, mul-le (value_of d i) d.weight (i / d.weight) d.weight (mod-le (i / d.weight) d.range) (omega arith), div-mul-le_self i d.weight)

with_value_higher : (r i x : ℕ) (d : Digit) → with_value (higher_digit r d) i x ≡ i % r + r * with_value d (i / r) x
with_value_higher r i x d =
    let split : i % r + r * (i / r) ≡ i = mod-add-div i r in
    let here : i % r + r * (i / r) - value_of d (i / r) * (r * d.weight) + x * (r * d.weight) ≡ i % r + r * with_value d (i / r) x =
    place_higher (i % r) r (i / r) d.weight (value_of d (i / r)) x (value_fits d (i / r)) in
    rw (value_higher r i d) (rw split at here)

-- what another value at the lowest place makes of a number
with_value_lowest : (r i x : ℕ) → with_value (record { weight = 1; range = r }) i x ≡ x + r * (i / r)
with_value_lowest r i x = rw (div-one i) (omega (arith, mod-add-div i r))

eqb_turned : (p v : ℕ) → eqb p v ≡ eqb v p
eqb_turned p v = ⊎_elim (λ (e : p ≡ v). rw e refl) (λ (n : p ≡ v → ⊥). ne_eqb p v n ∙ sym (ne_eqb v p (λ e. n (sym e)))) (cases_eq p v)

-- each is below those after it
abbrev pub Rising : List ℕ → Type 0
Rising [] = Unit {0}
Rising (p ∷ ps) = All (λ q. p < q) ps × Rising ps

times_positive : (m n : ℕ) → 0 < m → 0 < n → 0 < m * n
times_positive m n l k = omega (arith, mul-le 1 1 m n l k)

module _ (ranges : List ℕ) where
  -- a fact agrees where the value at its variable's digit is its own
  pub agrees_by_digit : (ps : List ℕ) (i : ℕ) (f : Fact) → agrees ranges ps i f ≡ option_map_or (λ d. eqb (value_of d i) f.value) (digit_of ranges ps f.variable) true
  agrees_by_digit [] i f = refl
  agrees_by_digit (p ∷ ps) i f = at (eqb p f.variable) (agrees_by_digit ps (i / slice_index ranges p) f)
    where
      higher : (r : Option Digit) → option_map_or (λ d. eqb (value_of d (i / slice_index ranges p)) f.value) r true
          ≡ option_map_or (λ d. eqb (value_of d i) f.value) (option_map (higher_digit (slice_index ranges p)) r) true
      higher None = refl
      higher (Some d) = rw (value_higher (slice_index ranges p) i d) refl

      at : (b : Bool)
          → (agrees ranges ps (i / slice_index ranges p) f ≡ option_map_or (λ d. eqb (value_of d (i / slice_index ranges p)) f.value) (digit_of ranges ps f.variable) true)
          → cond b (eqb (i % slice_index ranges p) f.value) (agrees ranges ps (i / slice_index ranges p) f)
          ≡ option_map_or (λ d. eqb (value_of d i) f.value)
          (cond b (Some (record { weight = 1; range = slice_index ranges p })) (option_map (higher_digit (slice_index ranges p)) (digit_of ranges ps f.variable))) true
      at true rest = rw (div-one i) refl
      at false rest = rest ∙ higher (digit_of ranges ps f.variable)

  -- a fact on no variable of the pattern moves nothing
  untouched : (ps : List ℕ) (i : ℕ) (f : Fact) (fs : List Fact) → All (λ q. f.variable < q) ps → index_after ranges ps i (f ∷ fs) ≡ index_after ranges ps i fs
  untouched [] i f fs all = refl
  untouched (p ∷ ps) i f fs all =
      let above : f.variable < p = All-head (λ q. f.variable < q) p ps all in
      let other : eqb f.variable p ≡ false = ne_eqb f.variable p (λ e. omega arith) in
      rw (other, untouched ps (i / slice_index ranges p) f fs (All-tail (λ q. f.variable < q) p ps all)) refl

  with_fact_here : (p : ℕ) (ps : List ℕ) (i : ℕ) (f : Fact) → eqb p f.variable ≡ true → with_fact ranges (p ∷ ps) i f ≡ f.value + slice_index ranges p * (i / slice_index ranges p)
  with_fact_here p ps i f e = rw e (with_value_lowest (slice_index ranges p) i f.value)

  with_fact_higher : (p : ℕ) (ps : List ℕ) (i : ℕ) (f : Fact) → eqb p f.variable ≡ false → with_fact ranges (p ∷ ps) i f ≡ i % slice_index ranges p + slice_index ranges p * with_fact ranges ps (i / slice_index ranges p) f
  with_fact_higher p ps i f e = rw e (higher (digit_of ranges ps f.variable))
    where
      higher : (r : Option Digit) → option_map_or (λ d. with_value d i f.value) (option_map (higher_digit (slice_index ranges p)) r) i
          ≡ i % slice_index ranges p + slice_index ranges p * option_map_or (λ d. with_value d (i / slice_index ranges p) f.value) r (i / slice_index ranges p)
      higher None = sym (mod-add-div i (slice_index ranges p))
      higher (Some d) = with_value_higher (slice_index ranges p) i f.value d

  pub with_fact_below : (ps : List ℕ) (i : ℕ) (f : Fact) → IsInRange ranges f → i < size_of ranges ps → with_fact ranges ps i f < size_of ranges ps
  with_fact_below [] i f fits l = l
  with_fact_below (p ∷ ps) i f fits l =
      let r = slice_index ranges p in
      let some : 0 < slice_index ranges p = positive i (slice_index ranges p) (size_of ranges ps) l in
      let high : i / slice_index ranges p < size_of ranges ps = div_below i (slice_index ranges p) (size_of ranges ps) some (omega arith) in
      at (eqb p f.variable) refl some high (with_fact_below ps (i / slice_index ranges p) f fits high)
    where
      at : (b : Bool) → eqb p f.variable ≡ b → 0 < slice_index ranges p → i / slice_index ranges p < size_of ranges ps
          → with_fact ranges ps (i / slice_index ranges p) f < size_of ranges ps → with_fact ranges (p ∷ ps) i f < size_of ranges (p ∷ ps)
      at true e some high rest =
          let low : f.value < slice_index ranges p = rw (eqb-true p f.variable e) fits.1 in
          omega (arith, with_fact_here p ps i f e, mul-add-lt (i / slice_index ranges p) (slice_index ranges p) f.value (size_of ranges ps) high low)
      at false e some high rest =
          omega (arith, with_fact_higher p ps i f e, mul-add-lt (with_fact ranges ps (i / slice_index ranges p) f) (slice_index ranges p) (i % slice_index ranges p) (size_of ranges ps) rest (mod_below i (slice_index ranges p) some))

  -- the first fact of an effect may be written first
  pub index_after_step : (ps : List ℕ) (i : ℕ) (f : Fact) (fs : List Fact) → Rising ps → IsInRange ranges f → i < size_of ranges ps → index_after ranges ps i (f ∷ fs) ≡ index_after ranges ps (with_fact ranges ps i f) fs
  index_after_step [] i f fs rising fits l = refl
  index_after_step (p ∷ ps) i f fs rising fits l =
      let some : 0 < slice_index ranges p = positive i (slice_index ranges p) (size_of ranges ps) l in
      let high : i / slice_index ranges p < size_of ranges ps = div_below i (slice_index ranges p) (size_of ranges ps) some (omega arith) in
      at (eqb p f.variable) refl some (index_after_step ps (i / slice_index ranges p) f fs rising.1 fits high)
    where
      at : (b : Bool) → eqb p f.variable ≡ b → 0 < slice_index ranges p
          → (index_after ranges ps (i / slice_index ranges p) (f ∷ fs) ≡ index_after ranges ps (with_fact ranges ps (i / slice_index ranges p) f) fs)
          → index_after ranges (p ∷ ps) i (f ∷ fs) ≡ index_after ranges (p ∷ ps) (with_fact ranges (p ∷ ps) i f) fs
      at true e some rest =
          let same : p ≡ f.variable = eqb-true p f.variable e in
          let low : f.value < slice_index ranges p = rw same fits.1 in
          rw (
            with_fact_here p ps i f e,
            remainder f.value (slice_index ranges p) (i / slice_index ranges p) low,
            quotient f.value (slice_index ranges p) (i / slice_index ranges p) low,
            untouched ps (i / slice_index ranges p) f fs (rw same at rising.0),
            eqb_turned f.variable p,
            e,
          ) refl
      at false e some rest =
          let low : i % slice_index ranges p < slice_index ranges p = mod_below i (slice_index ranges p) some in
          rw (
            with_fact_higher p ps i f e,
            remainder (i % slice_index ranges p) (slice_index ranges p) (with_fact ranges ps (i / slice_index ranges p) f) low,
            quotient (i % slice_index ranges p) (slice_index ranges p) (with_fact ranges ps (i / slice_index ranges p) f) low,
            rest,
            eqb_turned f.variable p,
            e,
          ) refl

  pub index_after_nothing : (ps : List ℕ) (i : ℕ) → i < size_of ranges ps → index_after ranges ps i [] ≡ i
  index_after_nothing [] i l = omega arith
  index_after_nothing (p ∷ ps) i l =
      let some : 0 < slice_index ranges p = positive i (slice_index ranges p) (size_of ranges ps) l in
      let high : i / slice_index ranges p < size_of ranges ps = div_below i (slice_index ranges p) (size_of ranges ps) some (omega arith) in
      rw (index_after_nothing ps (i / slice_index ranges p) high) (mod-add-div i (slice_index ranges p))

  -- the digit of a variable that stands at a place of the pattern
  pub digit_at : (ps : List ℕ) (k v : ℕ) → Rising ps → k < length ps → get_or ps k 0 ≡ v
      → digit_of ranges ps v ≡ Some (record { weight = size_of ranges (take k ps); range = slice_index ranges v })
  digit_at [] k v rising l e = absurd (omega arith)
  digit_at (p ∷ ps) zero v rising l e = rw (e, eq-eqb v v refl) refl
  digit_at (p ∷ ps) (suc k) v rising l e =
      let below : p < get_or ps k 0 = rising.0 k 0 (omega arith) in
      let other : eqb p v ≡ false = ne_eqb p v (λ (same : p ≡ v). omega arith) in
      rw (other, digit_at ps k v rising.1 (omega arith) e) refl

  pub no_digit : (ps : List ℕ) (v : ℕ) → All (λ p. p ≡ v → ⊥) ps → digit_of ranges ps v ≡ None
  no_digit [] v all = refl
  no_digit (p ∷ ps) v all =
      rw (ne_eqb p v (All-head (λ p. p ≡ v → ⊥) p ps all), no_digit ps v (All-tail (λ p. p ≡ v → ⊥) p ps all)) refl

  pub size_positive : (ps : List ℕ) → All (λ p. 0 < slice_index ranges p) ps → 0 < size_of ranges ps
  size_positive [] all = omega arith
  size_positive (p ∷ ps) all =
      times_positive (slice_index ranges p) (size_of ranges ps) (All-head (λ p. 0 < slice_index ranges p) p ps all)
      (size_positive ps (All-tail (λ p. 0 < slice_index ranges p) p ps all))

  -- each digit lies within the abstract states
  pub digits_below : (ps : List ℕ) (v : ℕ) → All (λ p. 0 < slice_index ranges p) ps → IfSome (digit_of ranges ps v) (IsDigitBelow (size_of ranges ps))
  digits_below [] v all = tt
  digits_below (p ∷ ps) v all =
      let here : 0 < slice_index ranges p = All-head (λ p. 0 < slice_index ranges p) p ps all in
      let more = All-tail (λ p. 0 < slice_index ranges p) p ps all in
      cond_both (eqb p v) (Some (record { weight = 1; range = slice_index ranges p })) (option_map (higher_digit (slice_index ranges p)) (digit_of ranges ps v))
      (λ r. IfSome r (IsDigitBelow (slice_index ranges p * size_of ranges ps)))
      (λ e. lowest here (size_positive ps more))
      (λ e. higher here (digit_of ranges ps v) (digits_below ps v more))
    where
      lowest : 0 < slice_index ranges p → 0 < size_of ranges ps → IsDigitBelow (slice_index ranges p * size_of ranges ps) (record { weight = 1; range = slice_index ranges p })
      lowest here some =
          record { weight = omega arith; range = here; within = mul-le (slice_index ranges p) 1 (slice_index ranges p) (size_of ranges ps) (omega arith) some }

      higher : 0 < slice_index ranges p → (r : Option Digit) → IfSome r (IsDigitBelow (size_of ranges ps)) → IfSome (option_map (higher_digit (slice_index ranges p)) r) (IsDigitBelow (slice_index ranges p * size_of ranges ps))
      higher here None h = tt
      higher here (Some d) h =
          record {
            weight = times_positive (slice_index ranges p) d.weight here h.weight;
            range = h.range;
            within = omega (arith, mul-le (slice_index ranges p) (d.range * d.weight) (slice_index ranges p) (size_of ranges ps) (omega arith) h.within);
          }

pub rising_from : (ps : List ℕ) → IsStrictlyIncreasing ps → Rising ps
rising_from ps increasing = go ps (AllPairs-from_increasing ps increasing)
  where
    go : (ps : List ℕ) → AllPairs (λ x y. x < y) ps → Rising ps
    go [] pairs = tt
    go (p ∷ ps) pairs = (λ k d l. pairs 0 (suc k) d (omega arith) (omega arith), go ps (λ i j d h l. pairs (suc i) (suc j) d (omega arith) (omega arith)))

-- what the binary search says of a variable that is not there
pub absent_from_search : (ps : List ℕ) (v : ℕ) (r : Result ℕ ℕ) (i : ℕ) → IsBinarySearchResult (λ y. nat_cmp y v) ps r → r ≡ Err i → IsStrictlyIncreasing ps → All (λ p. p ≡ v → ⊥) ps
absent_from_search ps v r i said is increasing =
    go (rw is at (searched ps v r said ascending))
  where
    pairs : AllPairs (λ x y. x < y) ps
    pairs = AllPairs-from_increasing ps increasing

    ascending : (j k : ℕ) → j ≤ k → k < length ps → get_or ps j 0 ≤ get_or ps k 0
    ascending j k h l = ⊎_elim (λ (e : j ≡ k). rw e (omega arith)) (λ (b : j < k). omega (arith, pairs j k 0 b l)) (eq-or-lt_of_le h)

    go : (i ≤ length ps) × ((k : ℕ) → k < i → get_or ps k 0 < v) × ((k : ℕ) → i ≤ k → k < length ps → v < get_or ps k 0) → All (λ p. p ≡ v → ⊥) ps
    go said k d l e =
        let here : get_or ps k d ≡ get_or ps k 0 = get_or_default ps k d 0 l in
        ⊎_elim (λ (b : k < i). omega (arith, said.1 k b)) (λ (b : i ≤ k). omega (arith, said.2 k b l)) (cases_lt k i)
