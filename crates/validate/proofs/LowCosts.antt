-- Costs that are low at sight are within the limit on the costs of actions.
use Rattle.std.proofs.Common.{◌≡◌, ℕ, zero, suc, ◌≤◌, Bool, true, false, cond, List, [], ◌∷◌, Option, Some, None, refl, ap, subst, arith}
use Rattle.std.specs.Prelude.{nat_lt, find, slice_get, unwrap_or, ◌&&◌}
use Rattle.std.specs.List.{list_all}
use Rattle.std.specs.Option.{option_map}
use Rattle.std.proofs.lemmas.Bool.Decides.{nat_tests}
use Rattle.std.proofs.lemmas.Option.{option_and_then_some}
use Rattle.pddl_task.specs.Atoms.{Atom, Literal, same_atom}
use Rattle.pddl_task.specs.declared.schema.Increase.{Increase}
use Rattle.pddl_task.specs.declared.schema.Increase.TheVariants.{Amount, Value}
use Rattle.pddl_task.specs.Planning.{PlanningTask, Schema, FunctionValue, Action, has_instance, value_of, ground_atom, sum_of_increases, cost_of_schema}
use Rattle.validate.specs.LowCosts.{is_low_increase, are_few_and_low, has_low_costs}
use Rattle.validate.specs.Verdicts.{CostsAtMost}

left : (a b : Bool) → (a && b) ≡ true → a ≡ true
left true b e = refl
left false b e = absurd cc

right : (a b : Bool) → (a && b) ≡ true → b ≡ true
right true b e = e
right false b e = absurd cc

low : (n : ℕ) → nat_lt n 1000 ≡ true → n ≤ 1000
low n e = grind (arith, nat_tests)

found_low : (p : Atom) (vs : List FunctionValue) (o : Option FunctionValue) → find (λ w. same_atom p w.function) vs ≡ o
    → list_all (λ v. nat_lt v.value 1000) vs ≡ true → unwrap_or (option_map (λ v. v.value) o) 0 ≤ 1000
found_low p vs None e all = omega arith
found_low p [] (Some v) e all = absurd cc
found_low p (w ∷ vs) (Some v) e all =
    by_same (same_atom p w.function) e (λ later. found_low p vs (Some v) later (right (nat_lt w.value 1000) _ all))
  where
    by_same : (b : Bool) → cond b (Some w) (find (λ x. same_atom p x.function) vs) ≡ Some v
        → (find (λ x. same_atom p x.function) vs ≡ Some v → v.value ≤ 1000) → v.value ≤ 1000
    by_same true e later =
        let same : w ≡ v = cc in
        subst (λ (x : FunctionValue). x.value ≤ 1000) same (low w.value (left (nat_lt w.value 1000) _ all))
    by_same false e later = later e

increase_low : (task : PlanningTask) (objects : List ℕ) (i : Increase) → list_all (λ v. nat_lt v.value 1000) task.values ≡ true
    → is_low_increase i ≡ true → unwrap_or (value_of task objects i) 0 ≤ 1000
increase_low task objects (Amount n) all is = low n is
increase_low task objects (Value atom) all is = found_low (ground_atom objects atom) task.values _ refl all

sum_low : (task : PlanningTask) (objects : List ℕ) (is : List Increase) → list_all (λ v. nat_lt v.value 1000) task.values ≡ true
    → are_few_and_low is ≡ true → sum_of_increases task objects is ≤ 2000
sum_low task objects [] all few = omega arith
sum_low task objects (i ∷ []) all few = let a = increase_low task objects i all few in omega (arith, a)
sum_low task objects (i ∷ j ∷ []) all few =
    let a = increase_low task objects i all (left (is_low_increase i) (is_low_increase j) few) in
    let b = increase_low task objects j all (right (is_low_increase i) (is_low_increase j) few) in
    omega (arith, a, b)
sum_low task objects (i ∷ j ∷ k ∷ is) all few = absurd cc

schema_low : (schemas : List Schema) (n : ℕ) (s : Schema) → list_all (λ x. are_few_and_low x.increases) schemas ≡ true
    → slice_get schemas n ≡ Some s → are_few_and_low s.increases ≡ true
schema_low [] n s all at = absurd cc
schema_low (x ∷ schemas) zero s all at =
    let same : x ≡ s = cc in
    subst (λ (y : Schema). are_few_and_low y.increases ≡ true) same (left (are_few_and_low x.increases) _ all)
schema_low (x ∷ schemas) (suc n) s all at = schema_low schemas n s (right (are_few_and_low x.increases) _ all) at

cost_low : (metric : Bool) (sum : ℕ) → sum ≤ 2000 → cond metric sum 1 ≤ 2147483647
cost_low true sum le = omega arith
cost_low false sum le = omega arith

pub low_costs_fit : (task : PlanningTask) → has_low_costs task ≡ true → CostsAtMost task 2147483647
unfolding CostsAtMost
low_costs_fit task is a h =
    option_and_then_some _ (slice_get task.schemas a.schema) a h
    (λ schema at made. go schema at (has_instance task schema a.objects) _ _ _ made)
  where
    values : list_all (λ v. nat_lt v.value 1000) task.values ≡ true
    values = left (list_all (λ v. nat_lt v.value 1000) task.values) _ is

    schemas : list_all (λ s. are_few_and_low s.increases) task.schemas ≡ true
    schemas = right (list_all (λ v. nat_lt v.value 1000) task.values) _ is

    go : (schema : Schema) → slice_get task.schemas a.schema ≡ Some schema → (b : Bool) (precondition : List Literal) (adds deletes : List Atom)
        → cond b (Some (record { schema = a.schema; objects = a.objects; precondition = precondition; adds = adds; deletes = deletes; cost = cost_of_schema task a.objects schema.increases })) None ≡ Some a
        → a.cost ≤ 2147483647
    go schema at true precondition adds deletes e =
        let same : record { schema = a.schema; objects = a.objects; precondition = precondition; adds = adds; deletes = deletes; cost = cost_of_schema task a.objects schema.increases } ≡ a = cc in
        let cost : cost_of_schema task a.objects schema.increases ≡ a.cost = ap (λ (x : Action). x.cost) same in
        let bound = cost_low task.metric (sum_of_increases task a.objects schema.increases) (sum_low task a.objects schema.increases values (schema_low task.schemas a.schema schema schemas at)) in
        subst (λ (n : ℕ). n ≤ 2147483647) cost bound
    go schema at false precondition adds deletes e = absurd cc
