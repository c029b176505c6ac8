-- States along the steps of a task.
use Rattle.std.proofs.Common.{◌≡◌, ℕ, zero, suc, ◌<◌, Bool, true, false, List, [], ◌∷◌, length, Option, Some, None, refl, arith, ⊎_elim, cond}
use Rattle.std.specs.Prelude.{option_and_then, IsSomeAnd, IfSome, slice_get, slice_index, slice_set, All, Any}
use Rattle.std.proofs.lemmas.List.{length-set, get_or-set_same, get_or-set_other}
use Rattle.std.proofs.lemmas.List.Elements.{All-head, All-tail}
use Rattle.std.proofs.lemmas.Bool.{cases_eq}
use Rattle.fdr.specs.declared.fact.Fact.{Fact}
use Rattle.fdr.specs.Tasks.{FiniteDomainTask, Operator, ranges, IsTask, IsState, IsOperator, IsInRange, applies, successor, with_values, step, state_after, LeadsToGoal, is_goal_state}

-- a property of all elements is one of the element at each index
pub found : {X : Type 0} (P : X → Type 0) (xs : List X) (i : ℕ) → All P xs → IfSome (slice_get xs i) P
found P [] i all = tt
found P (x ∷ xs) zero all = All-head P x xs all
found P (x ∷ xs) (suc i) all = found P xs i (All-tail P x xs all)

-- a property of the value of an option, if there is one, is a property of this value
pub at_some : {X : Type 0} (P : X → Type 0) (r : Option X) (x : X) → r ≡ Some x → IfSome r P → P x
at_some P r x e h = rw e at h

-- if each element has the first property and some element has the second, then some element has both
pub both : {X : Type 0} (P Q : X → Type 0) (xs : List X) → All P xs → Any Q xs → (x : X) × P x × Q x
both P Q xs all any = (any.1, rw any.3 at (all any.0 any.1 any.2), any.4)

-- a plan that begins with an operator is a step and a plan from the successor
pub first_step : (task : FiniteDomainTask) (s : List ℕ) (o : ℕ) (plan : List ℕ) → LeadsToGoal task s (o ∷ plan) → (t : List ℕ) × (step task s o ≡ Some t) × LeadsToGoal task t plan
first_step task s o plan leads = go (step task s o) leads
  where
    go : (r : Option (List ℕ)) → IsSomeAnd (option_and_then (λ t. state_after task t plan) r) (λ t. is_goal_state task t ≡ true) → (t : List ℕ) × (r ≡ Some t) × LeadsToGoal task t plan
    go None h = absurd h
    go (Some t) h = (t, refl, h)

set_is_state : (ranges s : List ℕ) (f : Fact) → IsState ranges s → IsInRange ranges f → IsState ranges (slice_set s f.variable f.value)
set_is_state ranges s f ok fits =
    record {
      as_long = rw length-set ok.as_long;
      in_range = λ v l. ⊎_elim (changed v l) (kept v l) (cases_eq v f.variable);
    }
  where
    changed : (v : ℕ) → v < length ranges → v ≡ f.variable → slice_index (slice_set s f.variable f.value) v < slice_index ranges v
    changed v l e = let short : f.variable < length s = omega (arith, ok.as_long, fits.0) in rw (e, get_or-set_same) fits.1

    kept : (v : ℕ) → v < length ranges → (v ≡ f.variable → ⊥) → slice_index (slice_set s f.variable f.value) v < slice_index ranges v
    kept v l ne = rw get_or-set_other (ok.in_range v l)

effect_keeps_state : (ranges : List ℕ) (effect : List Fact) (s : List ℕ) → IsState ranges s → All (IsInRange ranges) effect → IsState ranges (with_values effect s)
effect_keeps_state ranges [] s ok all = ok
effect_keeps_state ranges (f ∷ fs) s ok all =
    effect_keeps_state ranges fs (slice_set s f.variable f.value)
    (set_is_state ranges s f ok (All-head (IsInRange ranges) f fs all))
    (All-tail (IsInRange ranges) f fs all)

-- the successor of a state is a state
pub step_keeps_state : (task : FiniteDomainTask) → IsTask task → (s : List ℕ) (o : ℕ) → IsState (ranges task) s → IfSome (step task s o) (IsState (ranges task))
step_keeps_state task well s o ok = go (slice_get task.operators o) (found (IsOperator (ranges task)) task.operators o well.operators)
  where
    applied : (op : Operator) → IsOperator (ranges task) op → (b : Bool) → IfSome (cond b (Some (successor op s)) None) (IsState (ranges task))
    applied op well_op true = effect_keeps_state (ranges task) op.effect s ok well_op.effect.in_range
    applied op well_op false = tt

    go : (r : Option Operator) → IfSome r (IsOperator (ranges task)) → IfSome (option_and_then (λ op. cond (applies op s) (Some (successor op s)) None) r) (IsState (ranges task))
    go None h = tt
    go (Some op) h = applied op h (applies op s)
