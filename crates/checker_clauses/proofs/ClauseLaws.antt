-- What each clause, as a test that does not fail, tells.
use Rattle.std.proofs.Common.{◌≡◌, ℕ, zero, suc, ◌<◌, Bool, true, false, List, [], ◌∷◌, length, get_or, Option, Some, refl, arith, ltb-true}
use Rattle.std.specs.Prelude.{nat_lt, nat_eq, slice_get, slice_index, IsSomeAnd, All}
use Rattle.std.specs.Cmp.Lexicographic.{pointwise}
use Rattle.std.proofs.lemmas.Bool.{and_parts, eqb-true}
use Rattle.std.proofs.lemmas.Option.{slice_get-get_or}
use Rattle.cost.specs.Distances.{Distance, Finite, Infinite}
use Rattle.fdr.specs.Tasks.{IsState}
use Rattle.checker_clauses.specs.Clauses.{is_state, is_zero}

-- a test that is not false is true
pub not_false : (b : Bool) → (b ≡ false → ⊥) → b ≡ true
not_false true h = refl
not_false false h = absurd (h refl)

-- what holds of each element that a look-up gives holds of all
pub each : {X : Type 0} (P : X → Type 0) (xs : List X) → ((i : ℕ) (x : X) → slice_get xs i ≡ Some x → P x) → All P xs
each P xs h i d l = h i (get_or xs i d) (slice_get-get_or xs i d l)

-- a fact that no element has, as far as a test tells, has its test for each
pub passes_at : {X : Type 0} (test : X → Bool) (r : Option X) (x : X) → r ≡ Some x → (IsSomeAnd r (λ y. test y ≡ false) → ⊥) → test x ≡ true
passes_at test r x e h = not_false (test x) (λ f. h (rw e f))

pub zero_distance : (d : Distance) → is_zero d ≡ true → d ≡ Finite 0
zero_distance (Finite n) e = rw (eqb-true n 0 e) refl
zero_distance Infinite e = cc e

state_length : (rs xs : List ℕ) → is_state rs xs ≡ true → length xs ≡ length rs
state_length [] [] e = refl
state_length [] (x ∷ xs) e = cc e
state_length (r ∷ rs) [] e = cc e
state_length (r ∷ rs) (x ∷ xs) e = let parts = and_parts (nat_lt x r) (is_state rs xs) e in rw (state_length rs xs parts.1) refl

state_values : (rs xs : List ℕ) → is_state rs xs ≡ true → (v : ℕ) → v < length rs → slice_index xs v < slice_index rs v
state_values [] [] e v l = absurd (omega arith)
state_values [] (x ∷ xs) e v l = cc e
state_values (r ∷ rs) [] e v l = cc e
state_values (r ∷ rs) (x ∷ xs) e zero l = let parts = and_parts (nat_lt x r) (is_state rs xs) e in ltb-true x r parts.0
state_values (r ∷ rs) (x ∷ xs) e (suc v) l = let parts = and_parts (nat_lt x r) (is_state rs xs) e in state_values rs xs parts.1 v (omega arith)

pub is_state_tells : (rs xs : List ℕ) → is_state rs xs ≡ true → IsState rs xs
is_state_tells rs xs e = record { as_long = state_length rs xs e; in_range = state_values rs xs e }

pub same_values : (xs ys : List ℕ) → pointwise nat_eq xs ys ≡ true → xs ≡ ys
same_values [] [] e = refl
same_values [] (y ∷ ys) e = cc e
same_values (x ∷ xs) [] e = cc e
same_values (x ∷ xs) (y ∷ ys) e =
    let parts = and_parts (nat_eq x y) (pointwise nat_eq xs ys) e in rw (eqb-true x y parts.0, same_values xs ys parts.1) refl
