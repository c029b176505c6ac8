-- States: the tests of them, and steps from one to another.
use Rattle.std.proofs.Common.{◌≡◌, ℕ, suc, ◌<◌, true, ◌==◌, List, [], ◌∷◌, length, Option, Some, None, refl, arith, cond}
use Rattle.std.specs.Prelude.{nat_lt, slice_get, option_and_then}
use Rattle.std.proofs.lemmas.Bool.{and_from, eq-eqb, lt-ltb}
use Rattle.fdr.specs.Tasks.{FiniteDomainTask, Operator, ranges, IsTask, IsState, applies, successor, step}
use Rattle.abstraction.specs.Steps.{at_some, step_keeps_state}
use Rattle.checker_clauses.specs.Clauses.{is_state}
use Rattle.checker_clauses.proofs.ClauseLaws.{same_values}
use Rattle.owner_theory.specs.Owners.{same_state}
use Rattle.owner_theory.proofs.Lists.{get_below}

pub same_state-true : (xs ys : List ℕ) → same_state xs ys ≡ true → xs ≡ ys
unfolding same_state
same_state-true xs ys h = same_values xs ys h

pub same_state_refl : (xs : List ℕ) → same_state xs xs ≡ true
unfolding same_state
same_state_refl [] = refl
same_state_refl (x ∷ xs) = and_from (x == x) (same_state xs xs) (eq-eqb x x refl) (same_state_refl xs)

-- a successor of a state is a state
pub step_is_state : (T : FiniteDomainTask) (s t : List ℕ) (o : ℕ) → IsTask T → IsState (ranges T) s → step T s o ≡ Some t
    → IsState (ranges T) t
step_is_state T s t o well ok e = at_some (IsState (ranges T)) (step T s o) t e (step_keeps_state T well s o ok)

-- the test passes on states
pub is_state-from : (rs xs : List ℕ) → IsState rs xs → is_state rs xs ≡ true
is_state-from [] [] ok = refl
is_state-from [] (x ∷ xs) ok = absurd (omega (arith, ok.as_long))
is_state-from (r ∷ rs) [] ok = absurd (omega (arith, ok.as_long))
is_state-from (r ∷ rs) (x ∷ xs) ok =
    and_from (nat_lt x r) (is_state rs xs) (lt-ltb x r (ok.in_range 0 (omega arith)))
    (is_state-from rs xs (record { as_long = omega (arith, ok.as_long); in_range = λ v l. ok.in_range (suc v) (omega arith) }))

-- the step exists, so the operator does
pub step_there : (T : FiniteDomainTask) (s t : List ℕ) (o : ℕ) → step T s o ≡ Some t → o < length T.operators
step_there T s t o e = go (slice_get T.operators o) refl e
  where
    go : (r : Option Operator) → slice_get T.operators o ≡ r → option_and_then
        (λ op. cond (applies op s) (Some (successor op s)) None) r ≡ Some t → o < length T.operators
    go None is h = absurd (cc)
    go (Some op) is h = get_below T.operators o op is
