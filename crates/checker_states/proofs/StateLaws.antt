-- States and their order, value by value.
use Rattle.std.proofs.Common.{◌≡◌, ◌⊎◌, ℕ, ◌+◌, ◌<◌, ◌≤◌, false, ◌&&◌, ltb, List, [], ◌∷◌, length, drop, get_or, refl, ap, ◌∙◌, arith, inl, inr}
use Rattle.std.specs.Prelude.{slice_index}
use Rattle.std.proofs.lemmas.Bool.{false_from_ne_true, cases_order, le-ltb, lt-ltb, eq-eqb, ne_eqb}
use Rattle.std.specs.Cmp.Lexicographic.{slice_partial_cmp}
use Rattle.std.specs.Ordering.{is_lt, is_some_and, nat_cmp, as_partial_cmp}
use Rattle.std.proofs.lemmas.List.{drop_more}
use Rattle.checker_clauses.specs.Clauses.{is_state, comes_before}
use Rattle.checker_clauses.proofs.ClauseLaws.{is_state_tells}

-- a state has as many values as the task has variables
pub other_length : (rs xs : List ℕ) → (length xs ≡ length rs → ⊥) → is_state rs xs ≡ false
other_length rs xs ne = false_from_ne_true (is_state rs xs) (λ e. ne (is_state_tells rs xs e).as_long)

-- one more variable, as at a step of a loop
pub state_step : (rs xs : List ℕ) (v : ℕ) → v < length rs → v < length xs
    → is_state (drop v rs) (drop v xs) ≡ (ltb (slice_index xs v) (slice_index rs v) && is_state (drop (v + 1) rs) (drop (v + 1) xs))
state_step rs xs v l k = ap (λ (ys : List ℕ). is_state ys (drop v xs)) (drop_more rs v 0 l) ∙ ap (λ (ys : List ℕ). is_state (get_or rs v 0 ∷ drop (v + 1) rs) ys) (drop_more xs v 0 k)

-- the order of slices is this order
pub before_is : (xs ys : List ℕ) → is_some_and is_lt (slice_partial_cmp (as_partial_cmp nat_cmp) xs ys) ≡ comes_before xs ys
before_is [] [] = refl
before_is [] (y ∷ ys) = refl
before_is (x ∷ xs) [] = refl
before_is (x ∷ xs) (y ∷ ys) = go (before_is xs ys) (cases_order x y)
  where
    go : is_some_and is_lt (slice_partial_cmp (as_partial_cmp nat_cmp) xs ys) ≡ comes_before xs ys → (x ≡ y) ⊎ ((x < y) ⊎ (y < x))
        → is_some_and is_lt (slice_partial_cmp (as_partial_cmp nat_cmp) (x ∷ xs) (y ∷ ys)) ≡ comes_before (x ∷ xs) (y ∷ ys)
    go rest (inl e) = rw (e, le-ltb y y (omega arith), eq-eqb y y refl) rest
    go rest (inr (inl l)) = let ne : x ≡ y → ⊥ = λ e. omega arith in rw (lt-ltb x y l, ne_eqb x y ne) refl
    go rest (inr (inr l)) = let ne : x ≡ y → ⊥ = λ e. omega arith in let le : y ≤ x = omega arith in rw (le-ltb x y le, ne_eqb x y ne) refl
