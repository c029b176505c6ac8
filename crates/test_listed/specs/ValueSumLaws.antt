-- The sum of the values of two variables is an abstraction of the task.
use Rattle.std.specs.Prelude.{◌&&◌, ◌||◌, not, IfSome, option_and_then, slice_get, slice_index, slice_set, ◌^◌}
use Rattle.std.specs.List.{list_all}
use Rattle.std.specs.Option.{option_map_or}
use Rattle.std.proofs.Common.{◌≡◌, ℕ, ◌+◌, ◌-◌, ◌<◌, ◌≤◌, Bool, true, false, List, [], ◌∷◌, length, cond, eqb, eq-eqb, Option, Some, None, refl, sym, ap, ◌∙◌, subst, zero, suc, arith}
use Rattle.std.proofs.lemmas.Bool.{cond_both, eqb-true, eqb-false, and_parts, or_parts, lt-ltb, le-ltb, not-false, false≢true}
use Rattle.std.proofs.lemmas.Bool.Decides.{nat_tests}
use Rattle.std.proofs.lemmas.List.{length-set, get_or-set_same, get_or-set_other}
use Rattle.std.proofs.lemmas.Option.{slice_get_past}
use Rattle.fdr.specs.declared.fact.Fact.{Fact}
use Rattle.fdr.specs.Tasks.{FiniteDomainTask, Operator, ranges, IsState, holds, applies, successor, with_values, names_variable, is_goal_state}
use Rattle.abstraction.specs.Abstractions.{IsAbstractionOf}
use Rattle.abstraction.specs.Projections.{value_after}
use Rattle.abstraction.specs.Steps.{step_keeps_state}
use Rattle.test_listed.specs.ValueSums.{value_of, value_before, is_conditioned, is_conditioned_on, decrease, sum_of, moved, size_of, transition_of, value_sum, IsSummable}

-- ---- the value of a variable

-- the value after facts on the variable does not depend on the value before
named : (fs : List Fact) (v x y : ℕ) → names_variable fs v ≡ true → value_after fs v x ≡ value_after fs v y
named [] v x y e = absurd (false≢true e)
named (f ∷ fs) v x y e = go (eqb f.variable v) (named fs v x y) e
  where
    go : (b : Bool) → (names_variable fs v ≡ true → value_after fs v x ≡ value_after fs v y) → (b || names_variable fs v) ≡ true →
        value_after fs v (cond b f.value x) ≡ value_after fs v (cond b f.value y)
    go true behind q = refl
    go false behind q = behind q

not_named : (fs : List Fact) (v x : ℕ) → names_variable fs v ≡ false → value_after fs v x ≡ x
not_named [] v x e = refl
not_named (f ∷ fs) v x e =
    let parts = or_parts (eqb f.variable v) (names_variable fs v) e in rw (parts.0, not_named fs v x parts.1) refl

-- facts that hold do not change the value
held : (s : List ℕ) (fs : List Fact) (v : ℕ) → list_all (holds s) fs ≡ true → value_after fs v (slice_index s v) ≡ slice_index s v
held s [] v h = refl
held s (f ∷ fs) v h =
    let parts = and_parts (holds s f) (list_all (holds s) fs) h in
    let rest : value_after fs v (slice_index s v) ≡ slice_index s v = held s fs v parts.1 in
    cond_both (eqb f.variable v) f.value (slice_index s v) (λ y. value_after fs v y ≡ slice_index s v)
    (λ e.
    let same : f.value ≡ slice_index s v = sym (eqb-true (slice_index s f.variable) f.value parts.0) ∙ ap (λ (i : ℕ). slice_index s i) (eqb-true f.variable v e) in
    subst (λ (y : ℕ). value_after fs v y ≡ slice_index s v) (sym same) rest)
    (λ e. rest)

value_held : (s : List ℕ) (fs : List Fact) (v : ℕ) → list_all (holds s) fs ≡ true → names_variable fs v ≡ true → value_of fs v ≡ slice_index s v
value_held s fs v h n = named fs v 0 (slice_index s v) n ∙ held s fs v h

read_set : (s : List ℕ) (p x v : ℕ) → v < length s → slice_index (slice_set s p x) v ≡ cond (eqb p v) x (slice_index s v)
read_set s p x v l =
    cond_both (eqb p v) x (slice_index s v) (λ y. slice_index (slice_set s p x) v ≡ y)
    (λ e. let same : p ≡ v = eqb-true p v e in rw (same, get_or-set_same))
    (λ e. let other : v ≡ p → ⊥ = λ q. eqb-false p v e (sym q) in rw get_or-set_other)

read_effect : (effect : List Fact) (s : List ℕ) (v : ℕ) → v < length s → slice_index (with_values effect s) v ≡ value_after effect v (slice_index s v)
read_effect [] s v l = refl
read_effect (f ∷ fs) s v l =
    let longer : v < length (slice_set s f.variable f.value) = rw length-set l in
    rw (read_effect fs (slice_set s f.variable f.value) v longer, read_set s f.variable f.value v l)

-- what an operator does to the value
pub record IsChange (s t : List ℕ) (op : Operator) (v : ℕ) : Type 0 where
  pub sum : slice_index t v + value_before op v ≡ slice_index s v + value_of op.effect v
  pub enough : value_before op v ≤ slice_index s v

changed : (op : Operator) (s : List ℕ) (v : ℕ) → v < length s → applies op s ≡ true → is_conditioned op v ≡ true → IsChange s (successor op s) op v
changed op s v l h c = go (names_variable op.effect v) refl c
  where
    after : slice_index (successor op s) v ≡ value_after op.effect v (slice_index s v)
    after = read_effect op.effect s v l

    go : (b : Bool) → names_variable op.effect v ≡ b → (not b || names_variable op.precondition v) ≡ true → IsChange s (successor op s) op v
    go true e q =
        let before : value_before op v ≡ slice_index s v = ap (λ (b : Bool). cond b (value_of op.precondition v) 0) e ∙ value_held s op.precondition v h q in
        let value : slice_index (successor op s) v ≡ value_of op.effect v = after ∙ named op.effect v (slice_index s v) 0 e in
        record { sum = omega (arith, before, value); enough = omega (arith, before) }
    go false e q =
        let before : value_before op v ≡ 0 = ap (λ (b : Bool). cond b (value_of op.precondition v) 0) e in
        let value : slice_index (successor op s) v ≡ slice_index s v = after ∙ not_named op.effect v (slice_index s v) e in
        let none : value_of op.effect v ≡ 0 = not_named op.effect v 0 e in
        record { sum = omega (arith, before, value, none); enough = omega (arith, before) }

-- ---- the sum

moves_to : (size less more i j : ℕ) → less ≤ i → j + less ≡ i + more → j < size → moved size less more i ≡ Some j
moves_to size less more i j enough sum below =
    let next : i + more - less ≡ j = omega arith in
    rw (le-ltb i less enough, next, lt-ltb j size below) refl

moves_below : (size less more i : ℕ) → IfSome (moved size less more i) (λ j. j < size)
moves_below size less more i = grind (arith, nat_tests)

stays_at : (size less more i : ℕ) → less ≡ more → IfSome (moved size less more i) (λ j. j ≡ i)
stays_at size less more i e = grind (arith, nat_tests)

module _ (task : FiniteDomainTask) (x y : ℕ) (is : IsSummable task x y) where
  abbrev sum : List ℕ → ℕ
  sum s = slice_index s x + slice_index s y

  abbrev next : List ℕ → Option Operator → Option (List ℕ)
  next s r = option_and_then (λ op. cond (applies op s) (Some (successor op s)) None) r

  sum_below : (s : List ℕ) → IsState (ranges task) s → sum s < size_of task x y
  sum_below s state = omega (arith, state.in_range x is.first, state.in_range y is.second)

  conditions : (ops : List Operator) (o : ℕ) → list_all (is_conditioned_on x y) ops ≡ true →
      IfSome (slice_get ops o) (λ op. (is_conditioned op x ≡ true) × (is_conditioned op y ≡ true))
  conditions [] o e = tt
  conditions (op ∷ ops) zero e = and_parts (is_conditioned op x) (is_conditioned op y) (and_parts (is_conditioned_on x y op) (list_all (is_conditioned_on x y) ops) e).0
  conditions (op ∷ ops) (suc o) e = conditions ops o (and_parts (is_conditioned_on x y op) (list_all (is_conditioned_on x y) ops) e).1

  step_kept : (s : List ℕ) → IsState (ranges task) s → (r : Option Operator) → IfSome r (λ op. (is_conditioned op x ≡ true) × (is_conditioned op y ≡ true)) →
      IfSome (next s r) (IsState (ranges task)) → IfSome (next s r) (λ t. option_and_then (transition_of task x y (sum s)) r ≡ Some (sum t))
  step_kept s state None c ok = tt
  step_kept s state (Some op) c ok = go (applies op s) refl ok
    where
      go : (b : Bool) → applies op s ≡ b → IfSome (cond b (Some (successor op s)) None) (IsState (ranges task)) →
          IfSome (cond b (Some (successor op s)) None) (λ t. transition_of task x y (sum s) op ≡ Some (sum t))
      go false e q = tt
      go true e q =
          let one = changed op s x (omega (arith, state.as_long, is.first)) e c.0 in
          let two = changed op s y (omega (arith, state.as_long, is.second)) e c.1 in
          moves_to (size_of task x y) (decrease x y op) (sum_of x y op.effect) (sum s) (sum (successor op s))
          (omega (arith, one.enough, two.enough)) (omega (arith, one.sum, two.sum)) (sum_below (successor op s) q)

  goal_kept : (s : List ℕ) → is_goal_state task s ≡ true → (value_sum task x y).is_goal (sum s) ≡ true
  goal_kept s h = go (names_variable task.goal x) (names_variable task.goal y) refl refl
    where
      go : (b c : Bool) → names_variable task.goal x ≡ b → names_variable task.goal y ≡ c → cond (b && c) (eqb (sum s) (sum_of x y task.goal)) true ≡ true
      go true true e f = eq-eqb (sum s) (sum_of x y task.goal) (omega (arith, value_held s task.goal x h e, value_held s task.goal y h f))
      go true false e f = refl
      go false c e f = refl

  still : (i : ℕ) (r : Option Operator) → option_map_or (λ op. not (eqb (decrease x y op) (sum_of x y op.effect))) r false ≡ false →
      IfSome (option_and_then (transition_of task x y i) r) (λ j. j ≡ i)
  still i None e = tt
  still i (Some op) e =
      stays_at (size_of task x y) (decrease x y op) (sum_of x y op.effect) i
      (eqb-true (decrease x y op) (sum_of x y op.effect) (not-false (eqb (decrease x y op) (sum_of x y op.effect)) e))

  inside : (i : ℕ) (r : Option Operator) → IfSome (option_and_then (transition_of task x y i) r) (λ j. j < size_of task x y)
  inside i None = tt
  inside i (Some op) = moves_below (size_of task x y) (decrease x y op) (sum_of x y op.effect) i

  pub sum_abstracts : IsAbstractionOf task (value_sum task x y)
  sum_abstracts =
      record {
        indices = sum_below;
        transitions = λ i o l. inside i (slice_get task.operators o);
        steps = λ s o state. step_kept s state (slice_get task.operators o) (conditions task.operators o is.conditioned) (step_keeps_state task is.is_task s o state);
        goals = λ s state goal. goal_kept s goal;
        operators = λ i o l. ap (option_and_then (transition_of task x y i)) (slice_get_past task.operators o l);
        untouched = λ i o l e. still i (slice_get task.operators o) e;
      }

  pub sum_small : size_of task x y ≤ 2 ^ 24
  sum_small = omega (arith, is.few)
