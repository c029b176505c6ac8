-- The first place of a clause that fails.
use Rattle.std.proofs.Common.{◌≡◌, ◌⊎◌, ℕ, ◌<◌, ◌≤◌, Bool, true, false, ◌&&◌, eqb, List, [], ◌∷◌, length, Option, Some, None, refl, sym, ap, ◌∙◌, arith, inl, inr}
use Rattle.std.specs.Prelude.{slice_get, IsSomeAnd, IfSome, nat_lt}
use Rattle.std.specs.Option.{option_map_or}
use Rattle.std.proofs.lemmas.Bool.{cond_both, le-ltb, cases_lt, true≢false, and_parts, eqb-true}
use Rattle.std.proofs.lemmas.Option.{slice_get_past}
use Rattle.fdr.specs.Tasks.{FiniteDomainTask, ranges, IsState}
use Rattle.cert_value.specs.Certificates.{Entry, CertificateValue}
use Rattle.checker_clauses.specs.declared.violation.Violation.{Violation}
use Rattle.checker_clauses.specs.declared.violation.Violation.TheVariants.{Classes, Shares, TableForm, GoalValue, Fall, ClosedState, Start, ClosedGoal, Successor}
use Rattle.checker_clauses.specs.Clauses.{is_state, is_behind, is_covered, is_dear_if_goal, covers_successor, comes_before}
use Rattle.checker_clauses.specs.Violations.{Violates, clause_of, place_of, IsMet, IsFoundIn}
use Rattle.checker_pieces.specs.Pieces.{IsFirstIn}
use Rattle.checker_states.specs.Places.{passes_state, passes_goal, passes_successor, PassesBelow, PassesEach, says_state, says_goal, says_successor}
use Rattle.checker_clauses.proofs.ClauseLaws.{not_false, is_state_tells}

-- a test that passes does not fail
not_both : (test : Entry → Bool) (r : Option Entry) → option_map_or test r true ≡ true → IsSomeAnd r (λ e. test e ≡ false) → ⊥
not_both test None e h = h
not_both test (Some x) e h = true≢false (sym e ∙ h)

-- and one that does not pass fails
fails : (test : Entry → Bool) (r : Option Entry) → option_map_or test r true ≡ false → IsSomeAnd r (λ e. test e ≡ false)
fails test None e = true≢false e
fails test (Some x) e = e

-- past the end there is nothing to fail
past_end : (test : ℕ → Entry → Bool) (closed : List Entry) → PassesBelow (λ i. option_map_or (test i) (slice_get closed i) true) (length closed) → (i : ℕ) → option_map_or (test i) (slice_get closed i) true ≡ true
past_end test closed below i = go (cases_lt i (length closed))
  where
    go : (i < length closed) ⊎ (length closed ≤ i) → option_map_or (test i) (slice_get closed i) true ≡ true
    go (inl l) = below i l
    go (inr l) = ap (λ (r : Option Entry). option_map_or (test i) r true) (slice_get_past closed i l)

-- a place that is not before another
not_earlier : (i j : ℕ) → (j < i → ⊥) → comes_before (j ∷ []) (i ∷ []) ≡ false
not_earlier i j h = cond_both (eqb j i) false (nat_lt j i) (λ b. b ≡ false) (λ e. refl) (λ e. le-ltb j i (not_below i j h))
  where
    not_below : (i j : ℕ) → (j < i → ⊥) → i ≤ j
    not_below i j h = omega (arith, h)

-- a place in two numbers that is not before another
not_earlier_pair : (i o j p : ℕ) → (j < i → ⊥) → (j ≡ i → p < o → ⊥) → comes_before (j ∷ p ∷ []) (i ∷ o ∷ []) ≡ false
not_earlier_pair i o j p h k =
    cond_both (eqb j i) (comes_before (p ∷ []) (o ∷ [])) (nat_lt j i) (λ b. b ≡ false)
    (λ e. not_earlier o p (k (eqb-true j i e)))
    (λ e. le-ltb j i (not_below i j h))
  where
    not_below : (i j : ℕ) → (j < i → ⊥) → i ≤ j
    not_below i j h = omega (arith, h)

module _ (task : FiniteDomainTask) (c : CertificateValue) where
  -- C5
  pub no_state_fails : PassesBelow (passes_state task c.closed) (length c.closed) → IsFoundIn task c 5 None
  no_state_fails below (ClosedState i) k h =
      not_both _ (slice_get c.closed i) (past_end (λ j e. is_state (ranges task) e.state && is_behind c.closed j e.state) c.closed below i) h
  no_state_fails below (Classes v) k h = absurd (omega arith)
  no_state_fails below (Shares i o) k h = absurd (omega arith)
  no_state_fails below (TableForm i j) k h = absurd (omega arith)
  no_state_fails below (GoalValue i j a) k h = absurd (omega arith)
  no_state_fails below (Fall i j a o) k h = absurd (omega arith)
  no_state_fails below Start k h = absurd (omega arith)
  no_state_fails below (ClosedGoal i) k h = absurd (omega arith)
  no_state_fails below (Successor i o) k h = absurd (omega arith)

  pub state_fails : (i : ℕ) → passes_state task c.closed i ≡ false → PassesBelow (passes_state task c.closed) i → IsFoundIn task c 5 (Some (ClosedState i))
  state_fails i e below = (refl, record { there = fails (λ x. is_state (ranges task) x.state && is_behind c.closed i x.state) (slice_get c.closed i) e; first = earlier })
    where
      earlier : (w : Violation) → clause_of w ≡ 5 → Violates task c w → comes_before (place_of w) (i ∷ []) ≡ false
      earlier (ClosedState j) k h =
          not_earlier i j (λ l. not_both (λ x. is_state (ranges task) x.state && is_behind c.closed j x.state) (slice_get c.closed j) (below j l) h)
      earlier (Classes v) k h = absurd (omega arith)
      earlier (Shares j o) k h = absurd (omega arith)
      earlier (TableForm j t) k h = absurd (omega arith)
      earlier (GoalValue j t a) k h = absurd (omega arith)
      earlier (Fall j t a o) k h = absurd (omega arith)
      earlier Start k h = absurd (omega arith)
      earlier (ClosedGoal j) k h = absurd (omega arith)
      earlier (Successor j o) k h = absurd (omega arith)

  -- C7
  pub no_goal_fails : PassesBelow (passes_goal task c) (length c.closed) → IsFoundIn task c 7 None
  no_goal_fails below (ClosedGoal i) k h =
      not_both (is_dear_if_goal task c) (slice_get c.closed i) (past_end (λ j. is_dear_if_goal task c) c.closed below i) h
  no_goal_fails below (Classes v) k h = absurd (omega arith)
  no_goal_fails below (Shares i o) k h = absurd (omega arith)
  no_goal_fails below (TableForm i j) k h = absurd (omega arith)
  no_goal_fails below (GoalValue i j a) k h = absurd (omega arith)
  no_goal_fails below (Fall i j a o) k h = absurd (omega arith)
  no_goal_fails below (ClosedState i) k h = absurd (omega arith)
  no_goal_fails below Start k h = absurd (omega arith)
  no_goal_fails below (Successor i o) k h = absurd (omega arith)

  pub goal_fails : (i : ℕ) → passes_goal task c i ≡ false → PassesBelow (passes_goal task c) i → IsFoundIn task c 7 (Some (ClosedGoal i))
  goal_fails i e below = (refl, record { there = fails (is_dear_if_goal task c) (slice_get c.closed i) e; first = earlier })
    where
      earlier : (w : Violation) → clause_of w ≡ 7 → Violates task c w → comes_before (place_of w) (i ∷ []) ≡ false
      earlier (ClosedGoal j) k h = not_earlier i j (λ l. not_both (is_dear_if_goal task c) (slice_get c.closed j) (below j l) h)
      earlier (Classes v) k h = absurd (omega arith)
      earlier (Shares j o) k h = absurd (omega arith)
      earlier (TableForm j t) k h = absurd (omega arith)
      earlier (GoalValue j t a) k h = absurd (omega arith)
      earlier (Fall j t a o) k h = absurd (omega arith)
      earlier (ClosedState j) k h = absurd (omega arith)
      earlier Start k h = absurd (omega arith)
      earlier (Successor j o) k h = absurd (omega arith)

  -- C6
  pub start_holds : is_covered task c task.initial 0 ≡ true → IsFoundIn task c 6 None
  start_holds e Start k h = true≢false (sym e ∙ h)
  start_holds e (Classes v) k h = absurd (omega arith)
  start_holds e (Shares i o) k h = absurd (omega arith)
  start_holds e (TableForm i j) k h = absurd (omega arith)
  start_holds e (GoalValue i j a) k h = absurd (omega arith)
  start_holds e (Fall i j a o) k h = absurd (omega arith)
  start_holds e (ClosedState i) k h = absurd (omega arith)
  start_holds e (ClosedGoal i) k h = absurd (omega arith)
  start_holds e (Successor i o) k h = absurd (omega arith)

  pub start_fails : is_covered task c task.initial 0 ≡ false → IsFoundIn task c 6 (Some Start)
  start_fails e = (refl, record { there = e; first = earlier })
    where
      earlier : (w : Violation) → clause_of w ≡ 6 → Violates task c w → comes_before (place_of w) [] ≡ false
      earlier (Classes v) k h = refl
      earlier (Shares j o) k h = refl
      earlier (TableForm j t) k h = refl
      earlier (GoalValue j t a) k h = refl
      earlier (Fall j t a o) k h = refl
      earlier (ClosedState j) k h = refl
      earlier Start k h = refl
      earlier (ClosedGoal j) k h = refl
      earlier (Successor j o) k h = refl

  -- C8
  pub no_successor_fails : PassesEach (passes_successor task c) (length c.closed) → IsFoundIn task c 8 None
  no_successor_fails each (Successor i o) k h =
      not_both (λ e. covers_successor task c e o) (slice_get c.closed i)
      (past_end (λ j e. covers_successor task c e o) c.closed (λ j l. each j l o) i) h
  no_successor_fails each (Classes v) k h = absurd (omega arith)
  no_successor_fails each (Shares i o) k h = absurd (omega arith)
  no_successor_fails each (TableForm i j) k h = absurd (omega arith)
  no_successor_fails each (GoalValue i j a) k h = absurd (omega arith)
  no_successor_fails each (Fall i j a o) k h = absurd (omega arith)
  no_successor_fails each (ClosedState i) k h = absurd (omega arith)
  no_successor_fails each Start k h = absurd (omega arith)
  no_successor_fails each (ClosedGoal i) k h = absurd (omega arith)

  pub successor_fails : (i o : ℕ) → passes_successor task c i o ≡ false → PassesEach (passes_successor task c) i → PassesBelow (passes_successor task c i) o → IsFoundIn task c 8 (Some (Successor i o))
  successor_fails i o e each below = (refl, record { there = fails (λ x. covers_successor task c x o) (slice_get c.closed i) e; first = earlier })
    where
      here : (j p : ℕ) → j ≡ i → p < o → passes_successor task c j p ≡ true
      here j p s l = rw s (below p l)

      earlier : (w : Violation) → clause_of w ≡ 8 → Violates task c w → comes_before (place_of w) (i ∷ o ∷ []) ≡ false
      earlier (Successor j p) k h =
          not_earlier_pair i o j p
          (λ l. not_both (λ x. covers_successor task c x p) (slice_get c.closed j) (each j l p) h)
          (λ s l. not_both (λ x. covers_successor task c x p) (slice_get c.closed j) (here j p s l) h)
      earlier (Classes v) k h = absurd (omega arith)
      earlier (Shares j o) k h = absurd (omega arith)
      earlier (TableForm j t) k h = absurd (omega arith)
      earlier (GoalValue j t a) k h = absurd (omega arith)
      earlier (Fall j t a o) k h = absurd (omega arith)
      earlier (ClosedState j) k h = absurd (omega arith)
      earlier Start k h = absurd (omega arith)
      earlier (ClosedGoal j) k h = absurd (omega arith)

  -- where C5 is met, a closed state is one of the task
  pub closed_state : IsMet task c 5 → (i : ℕ) → IfSome (slice_get c.closed i) (λ e. IsState (ranges task) e.state)
  closed_state met i = go (slice_get c.closed i) (met (ClosedState i) refl)
    where
      go : (r : Option Entry) → (IsSomeAnd r (λ e. (is_state (ranges task) e.state && is_behind c.closed i e.state) ≡ false) → ⊥) → IfSome r (λ e. IsState (ranges task) e.state)
      go None h = tt
      go (Some e) h =
          is_state_tells (ranges task) e.state (and_parts (is_state (ranges task) e.state) (is_behind c.closed i e.state) (not_false (is_state (ranges task) e.state && is_behind c.closed i e.state) h)).0

-- C5 by the test of each closed state
pub states_found : (task : FiniteDomainTask) (c : CertificateValue) (v : Option Violation) → IsFirstIn (says_state task c) 0 (length c.closed) v → IsFoundIn task c 5 v
states_found task c None none = no_state_fails task c (λ i l. none i (omega arith) l)
states_found task c (Some v) is = rw is.3.0 (state_fails task c is.0 is.3.1 (λ j l. is.4 j (omega arith) l))

-- C7 by the test of each closed state
pub goals_found : (task : FiniteDomainTask) (c : CertificateValue) (v : Option Violation) → IsFirstIn (says_goal task c) 0 (length c.closed) v → IsFoundIn task c 7 v
goals_found task c None none = no_goal_fails task c (λ i l. none i (omega arith) l)
goals_found task c (Some v) is = rw is.3.0 (goal_fails task c is.0 is.3.1 (λ j l. is.4 j (omega arith) l))

-- C8 by the test of each closed state
pub successors_found : (task : FiniteDomainTask) (c : CertificateValue) (v : Option Violation) → IsFirstIn (says_successor task c) 0 (length c.closed) v → IsFoundIn task c 8 v
successors_found task c None none = no_successor_fails task c (λ i l. none i (omega arith) l)
successors_found task c (Some v) is = rw is.3.1 (successor_fails task c is.0 is.3.0 is.3.2.0 (λ j l. is.4 j (omega arith) l) is.3.2.1)
