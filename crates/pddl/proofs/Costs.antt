-- What the actions of a task cost at most, where no schema's sum is too great.
use Rattle.std.proofs.Common.{◌≡◌, ℕ, zero, suc, ◌≤◌, Bool, true, false, cond, List, [], ◌∷◌, length, refl, ap, subst, arith}
use Rattle.std.specs.Prelude.{Option, Some, None, ◌==◌, ◌&&◌, nat_lt, if◌then◌else◌, find, slice_get, sum_by, unwrap_or}
use Rattle.std.specs.Option.{option_map}
use Rattle.std.proofs.lemmas.Bool.Decides.{nat_tests}
use Rattle.std.proofs.lemmas.Option.{option_and_then_some}
use Rattle.std.proofs.lemmas.List.Sums.{sum_by-le-sum_by}
use Rattle.pddl_task.specs.Atoms.{Atom, Literal, same_atom}
use Rattle.pddl_task.specs.declared.schema.Increase.{Increase}
use Rattle.pddl_task.specs.declared.schema.Increase.TheVariants.{Amount, Value}
use Rattle.pddl_task.specs.Planning.{PlanningTask, Schema, FunctionValue, Action, IsActionOf, has_instance, value_of, ground_atom, cost_of_schema, sum_of_increases}
use Rattle.pddl_task.proofs.AtomLaws.{same_atom_true}
use Rattle.pddl_syntax.specs.declared.fault.Fault.{Fault}
use Rattle.pddl_syntax.specs.declared.fault.FaultKind.TheVariants.{CostRange}
use Rattle.pddl_syntax.specs.Faults.{fault, faults_if, first_of}
use Rattle.pddl_syntax.proofs.Firsts.{none_kept}
use Rattle.pddl.specs.Sums.{greater_of, greatest_value, most_of, sum_faults, stated_sum_faults}
use Rattle.pddl.specs.Texts.{sums_pass}

greater_by : (b : Bool) (value known : ℕ) → known ≤ (if b && nat_lt known value then value else known)
greater_by true value known = by_less (nat_lt known value) refl where
  by_less : (t : Bool) → nat_lt known value ≡ t → known ≤ (if t then value else known)
  by_less true e = grind (arith, nat_tests)
  by_less false e = omega arith
greater_by false value known = omega arith

greatest_least : (number : ℕ) (vs : List FunctionValue) (known : ℕ) → known ≤ greatest_value number vs known
greatest_least number [] known = omega arith
greatest_least number (v ∷ vs) known =
    let here = greater_by (v.function.predicate == number) v.value known in
    let later = greatest_least number vs (greater_of number v known) in
    omega (arith, here, later)

own_least : (b : Bool) (value known : ℕ) → b ≡ true → value ≤ (if b && nat_lt known value then value else known)
own_least true value known e = by_less (nat_lt known value) refl where
  by_less : (t : Bool) → nat_lt known value ≡ t → value ≤ (if t then value else known)
  by_less true is = omega arith
  by_less false is = grind (arith, nat_tests)
own_least false value known e = absurd cc

same_number : (n : ℕ) → (n == n) ≡ true
same_number n = grind (arith, nat_tests)

found_within : (p : Atom) (vs : List FunctionValue) (known : ℕ) (v : FunctionValue) → find (λ w. same_atom p w.function) vs ≡ Some v
    → v.value ≤ greatest_value p.predicate vs known
found_within p [] known v e = absurd cc
found_within p (w ∷ vs) known v e = by_same (same_atom p w.function) refl e (found_within p vs (greater_of p.predicate w known) v) where
  by_same : (b : Bool) → same_atom p w.function ≡ b → (if b then Some w else find (λ x. same_atom p x.function) vs) ≡ Some v
      → (find (λ x. same_atom p x.function) vs ≡ Some v → v.value ≤ greatest_value p.predicate vs (greater_of p.predicate w known))
      → v.value ≤ greatest_value p.predicate (w ∷ vs) known
  by_same true is e go =
      let same : w ≡ v = cc in
      let function : p ≡ w.function = same_atom_true p w.function is in
      let test : (w.function.predicate == p.predicate) ≡ true = subst (λ (q : Atom). (q.predicate == p.predicate) ≡ true) function (same_number p.predicate) in
      let own = own_least (w.function.predicate == p.predicate) w.value known test in
      let later = greatest_least p.predicate vs (greater_of p.predicate w known) in
      let value : w.value ≡ v.value = ap (λ (x : FunctionValue). x.value) same in
      omega (arith, own, later, value)
  by_same false is e go = go e

looked_up : (p : Atom) (vs : List FunctionValue) (o : Option FunctionValue) → find (λ w. same_atom p w.function) vs ≡ o
    → unwrap_or (option_map (λ v. v.value) o) 0 ≤ greatest_value p.predicate vs 0
looked_up p vs None e = omega arith
looked_up p vs (Some v) e = found_within p vs 0 v e

value_within : (task : PlanningTask) (objects : List ℕ) (i : Increase) → unwrap_or (value_of task objects i) 0 ≤ most_of task.values i
value_within task objects (Amount n) = omega arith
value_within task objects (Value atom) = looked_up (ground_atom objects atom) task.values _ refl

fault_not_nil : (b : Bool) (f : Fault) (fs : List Fault) → faults_if b f fs ≡ [] → b ≡ false
fault_not_nil true f fs e = absurd cc
fault_not_nil false f fs e = refl

rest_nil : (b : Bool) (f : Fault) (fs : List Fault) → faults_if b f fs ≡ [] → fs ≡ []
rest_nil true f fs e = absurd cc
rest_nil false f fs e = e

each_within : (values : List FunctionValue) (schemas : List Schema) (places : List ℕ) → length schemas ≡ length places → sum_faults (most_of values) schemas places ≡ []
    → (i : ℕ) (s : Schema) → slice_get schemas i ≡ Some s → nat_lt 2147483647 (sum_by (most_of values) s.increases) ≡ false
each_within values [] places long none i s at = absurd cc
each_within values (r ∷ schemas) [] long none i s at = absurd (omega (arith, long))
each_within values (r ∷ schemas) (place ∷ places) long none zero s at =
    let same : r ≡ s = cc in
    subst (λ (x : Schema). nat_lt 2147483647 (sum_by (most_of values) x.increases) ≡ false) same (fault_not_nil _ (fault CostRange place) _ none)
each_within values (r ∷ schemas) (place ∷ places) long none (suc i) s at =
    each_within values schemas places (omega (arith, long)) (rest_nil _ (fault CostRange place) _ none) i s at

sums_nil : (metric : Bool) (values : List FunctionValue) (schemas : List Schema) (places : List ℕ) → first_of None (sums_pass metric values schemas places).faults ≡ None
    → metric ≡ true → sum_faults (most_of values) schemas places ≡ []
unfolding stated_sum_faults
sums_nil true values schemas places clean is = none_kept _ clean
sums_nil false values schemas places clean is = absurd cc

cost_by : (metric : Bool) (sum most : ℕ) → (metric ≡ true → sum ≤ most) → (metric ≡ true → nat_lt 2147483647 most ≡ false) → cond metric sum 1 ≤ 2147483647
cost_by true sum most le within = let a = le refl in let b = within refl in grind (arith, nat_tests)
cost_by false sum most le within = omega arith

-- where the sums have no fault, each action costs at most so much
pub costs_within : (task : PlanningTask) (places : List ℕ) → length task.schemas ≡ length places
    → first_of None (sums_pass task.metric task.values task.schemas places).faults ≡ None
    → (a : Action) → IsActionOf task a → a.cost ≤ 2147483647
costs_within task places long clean a h =
    option_and_then_some _ (slice_get task.schemas a.schema) a h
    (λ schema at made. go schema at (has_instance task schema a.objects) _ _ _ made)
  where
    go : (schema : Schema) → slice_get task.schemas a.schema ≡ Some schema → (b : Bool) (precondition : List Literal) (adds deletes : List Atom)
        → cond b (Some (record { schema = a.schema; objects = a.objects; precondition = precondition; adds = adds; deletes = deletes; cost = cost_of_schema task a.objects schema.increases })) None ≡ Some a
        → a.cost ≤ 2147483647
    go schema at true precondition adds deletes e =
        let same : record { schema = a.schema; objects = a.objects; precondition = precondition; adds = adds; deletes = deletes; cost = cost_of_schema task a.objects schema.increases } ≡ a = cc in
        let cost : cost_of_schema task a.objects schema.increases ≡ a.cost = ap (λ (x : Action). x.cost) same in
        let sum = sum_by-le-sum_by (λ (i : Increase). unwrap_or (value_of task a.objects i) 0) (most_of task.values) schema.increases (value_within task a.objects) in
        let bound = cost_by task.metric (sum_of_increases task a.objects schema.increases) (sum_by (most_of task.values) schema.increases) (λ m. sum)
        (λ m. each_within task.values task.schemas places long (sums_nil task.metric task.values task.schemas places clean m) a.schema schema at) in
        subst (λ (n : ℕ). n ≤ 2147483647) cost bound
    go schema at false precondition adds deletes e = absurd cc
