-- Where each value is its own class, a domain abstraction is a projection.
use Rattle.std.proofs.Common.{◌≡◌, ℕ, zero, suc, ◌+◌, ◌<◌, Bool, true, false, List, [], ◌∷◌, length, Option, Some, None, refl, arith, cond, eqb}
use Rattle.std.specs.Prelude.{option_and_then, IfSome, slice_get, slice_index, All}
use Rattle.std.specs.List.{range_with_len}
use Rattle.std.proofs.lemmas.List.{set-get_or}
use Rattle.std.proofs.lemmas.List.FromFn.{get_or-range_with_len}
use Rattle.std.proofs.lemmas.List.Elements.{All-head, All-tail}
use Rattle.std.proofs.lemmas.Bool.{eqb-true}
use Rattle.fdr.specs.declared.fact.Fact.{Fact}
use Rattle.fdr.specs.Tasks.{FiniteDomainTask, Operator, ranges, IsTask, IsState, IsOperator, IsInRange}
use Rattle.abstraction.specs.Projections.{transition_of, projection, AllExist}
use Rattle.abstraction.specs.Steps.{found}
use Rattle.abstraction_domain.specs.Rows.{class_count}
use Rattle.abstraction_domain.specs.Domains.{variables, class_of, class_counts, class_state, class_facts, class_operator, domain, identity_rows, AreSame}

-- numbers from a on: the classes are those below the last one's successor
counted_up : (a n : ℕ) → class_count (range_with_len a (suc n)) ≡ a + suc n
counted_up a zero = omega arith
counted_up a (suc n) = omega (arith, counted_up (a + 1) n)

counted : (n : ℕ) → class_count (range_with_len 0 n) ≡ n
counted zero = refl
counted (suc n) = omega (arith, counted_up 0 n)

own_class : (n x : ℕ) → x < n → slice_index (range_with_len 0 n) x ≡ x
own_class n x l = omega (arith, get_or-range_with_len 0 n x 0 l)

module _ (ranges : List ℕ) where
  same_variables : (ps : List ℕ) → variables (identity_rows ranges ps) ≡ ps
  same_variables [] = refl
  same_variables (p ∷ ps) = rw (same_variables ps) refl

  same_counts : (ps : List ℕ) → class_counts (identity_rows ranges ps) ranges ≡ ranges
  same_counts [] = refl
  same_counts (p ∷ ps) = rw (same_counts ps, counted (slice_index ranges p)) (set-get_or ranges p 0)

  same_value : (ps : List ℕ) (v x : ℕ) → x < slice_index ranges v → class_of (identity_rows ranges ps) v x ≡ x
  same_value [] v x l = refl
  same_value (p ∷ ps) v x l = go (eqb p v) refl (same_value ps v x l)
    where
      go : (b : Bool) → eqb p v ≡ b → class_of (identity_rows ranges ps) v x ≡ x → cond b (slice_index (range_with_len 0 (slice_index ranges p)) x) (class_of (identity_rows ranges ps) v x) ≡ x
      go true e rest = let same : p ≡ v = eqb-true p v e in own_class (slice_index ranges p) x (rw same l)
      go false e rest = rest

  same_state : (ps s : List ℕ) → IsState ranges s → AllExist ranges ps → class_state (identity_rows ranges ps) s ≡ s
  same_state [] s state exist = refl
  same_state (p ∷ ps) s state exist =
      let below = state.in_range p (All-head (λ v. v < length ranges) p ps exist) in
      rw (same_state ps s state (All-tail (λ v. v < length ranges) p ps exist), own_class (slice_index ranges p) (slice_index s p) below) (set-get_or s p 0)

  same_facts : (ps : List ℕ) (fs : List Fact) → All (IsInRange ranges) fs → class_facts (identity_rows ranges ps) fs ≡ fs
  same_facts ps [] all = refl
  same_facts ps (f ∷ fs) all =
      rw (same_value ps f.variable f.value (All-head (IsInRange ranges) f fs all).1, same_facts ps fs (All-tail (IsInRange ranges) f fs all)) refl

module _ (task : FiniteDomainTask) (ps : List ℕ) (well : IsTask task) (exist : AllExist (ranges task) ps) where
  same_transition : (i : ℕ) (r : Option Operator) → IfSome r (IsOperator (ranges task)) →
      option_and_then (λ op. transition_of (class_counts (identity_rows (ranges task) ps) (ranges task)) (variables (identity_rows (ranges task) ps)) i (class_operator (identity_rows (ranges task) ps) op)) r
      ≡ option_and_then (transition_of (ranges task) ps i) r
  same_transition i None h = refl
  same_transition i (Some op) h = rw (same_counts (ranges task) ps, same_variables (ranges task) ps, same_facts (ranges task) ps op.precondition h.precondition.in_range, same_facts (ranges task) ps op.effect h.effect.in_range) refl

  pub identity_is_projection : AreSame (ranges task) (domain task (identity_rows (ranges task) ps)) (projection task ps)
  identity_is_projection =
      record {
        size = rw (same_counts (ranges task) ps, same_variables (ranges task) ps) refl;
        index = λ s state. rw (same_counts (ranges task) ps, same_variables (ranges task) ps, same_state (ranges task) ps s state exist) refl;
        transition = λ i o. same_transition i (slice_get task.operators o) (found (IsOperator (ranges task)) task.operators o well.operators);
        touches = λ o. rw (same_variables (ranges task) ps) refl;
        is_goal = λ i. rw (same_counts (ranges task) ps, same_variables (ranges task) ps, same_facts (ranges task) ps task.goal well.goal.in_range) refl;
      }
