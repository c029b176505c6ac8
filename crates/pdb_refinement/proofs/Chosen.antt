-- Random choices.
use Rattle.std.proofs.Common.{◌≡◌, ℕ, zero, suc, ◌+◌, ◌<◌, ◌≤◌, Bool, true, false, List, [], ◌∷◌, length, take, get_or, set, refl, ◌∙◌, ⊎_elim, arith}
use Rattle.std.specs.Prelude.{slice_index_or, All, Contains}
use Rattle.std.specs.List.{range_with_len}
use Rattle.std.specs.List.Sorted.{IsPermutation}
use Rattle.std.proofs.lemmas.Bool.{cases_eq}
use Rattle.std.proofs.lemmas.List.{get_or_default, get_or-take, length-take}
use Rattle.std.proofs.lemmas.List.Elements.{All-take, All-from_get_or}
use Rattle.std.proofs.lemmas.List.FromFn.{length-range_with_len, get_or-range_with_len}
use Rattle.std.proofs.lemmas.List.Sorted.{All-permutation, length_permutation}
use Rattle.fdr.specs.declared.fact.Fact.{Fact}
use Rattle.pdb_refinement.specs.Refinements.{AllowsConsidered}

-- numbers in any order

below_count : (n : ℕ) → All (λ (i : ℕ). i < n) (range_with_len 0 n)
below_count n = All-from_get_or (λ (i : ℕ). i < n) (range_with_len 0 n) 0 (λ i l. omega (arith, length-range_with_len 0 n, get_or-range_with_len 0 n i 0))

module _ (n : ℕ) (order : List ℕ) (is : IsPermutation (range_with_len 0 n) order) where
  pub order_length : length order ≡ n
  order_length = length_permutation (range_with_len 0 n) order is ∙ length-range_with_len 0 n

  pub order_below : (m : ℕ) → All (λ (i : ℕ). i < n) (take m order)
  order_below m = All-take (λ (i : ℕ). i < n) m order (All-permutation (λ (i : ℕ). i < n) (range_with_len 0 n) order is (below_count n))

  -- the flag of the first of them is set
  pub one_set : (m : ℕ) (flags : List Bool) → 0 < m → m ≤ n → length flags ≡ n → All (λ (i : ℕ). slice_index_or flags i false ≡ true) (take m order) → Contains flags true
  one_set m flags some few long are =
      let within : 0 < length (take m order) = omega (arith, length-take m order, order_length) in
      let i : ℕ = get_or (take m order) 0 0 in
      let low : i < n = order_below m 0 0 within in
      (i, omega (arith, low, long), get_or_default flags i true false (omega (arith, low, long)) ∙ are 0 0 within)

-- ---- considered facts whose variables are not banned

-- one fewer is banned
set_false : (banned : List Bool) (i v : ℕ) → slice_index_or banned v false ≡ false → slice_index_or (set banned i false) v false ≡ false
set_false [] i v e = refl
set_false (b ∷ bs) zero zero e = refl
set_false (b ∷ bs) zero (suc v) e = e
set_false (b ∷ bs) (suc i) zero e = e
set_false (b ∷ bs) (suc i) (suc v) e = set_false bs i v e

here_false : (banned : List Bool) (i : ℕ) → slice_index_or (set banned i false) i false ≡ false
here_false [] i = refl
here_false (b ∷ bs) zero = refl
here_false (b ∷ bs) (suc i) = here_false bs i

module _ (goal : List Fact) (considered : List Bool) (k : ℕ) (within : k < length goal) where
  -- the fact at k need not be looked at, or its variable is not banned
  step : (banned new : List Bool) → AllowsConsidered (take k goal) considered banned → ((v : ℕ) → slice_index_or banned v false ≡ false → slice_index_or new v false ≡ false)
      → ((d : Fact) → slice_index_or considered k false ≡ true → slice_index_or new (slice_index_or goal k d).variable false ≡ false) → AllowsConsidered (take (k + 1) goal) considered new
  step banned new so_far kept here j d l e =
      let short : j < k + 1 = omega (arith, l, length-take (k + 1) goal) in
      let at : get_or (take (k + 1) goal) j d ≡ get_or goal j d = get_or-take (k + 1) goal j d short in
      rw at (⊎_elim
      (λ (same : j ≡ k). rw same (here d (rw same at e)))
      (λ (other : j ≡ k → ⊥).
      let low : j < k = omega arith in
      let before : get_or (take k goal) j d ≡ get_or goal j d = get_or-take k goal j d low in
      rw (← before) (kept (get_or (take k goal) j d).variable (so_far j d (omega (arith, low, within, length-take k goal)) e)))
      (cases_eq j k))

  pub allowed_more : (banned : List Bool) (f : Fact) → ((d : Fact) → slice_index_or goal k d ≡ f) → AllowsConsidered (take k goal) considered banned → AllowsConsidered (take (k + 1) goal) considered (set banned f.variable false)
  allowed_more banned f is so_far =
      step banned (set banned f.variable false) so_far (λ v. set_false banned f.variable v) (λ d e. rw (is d) (here_false banned f.variable))

  pub allowed_same : (banned : List Bool) → ((d : Fact) → slice_index_or considered k false ≡ true → slice_index_or banned (slice_index_or goal k d).variable false ≡ false)
      → AllowsConsidered (take k goal) considered banned → AllowsConsidered (take (k + 1) goal) considered banned
  allowed_same banned here so_far = step banned banned so_far (λ v e. e) here
