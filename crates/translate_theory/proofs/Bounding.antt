-- What the theorems follow from: plans of one cost, bounds, and groups along runs.
use Rattle.std.proofs.Common.{◌≡◌, ℕ, true, false, List, Some, sym, ◌∙◌, ◌≢◌, ◌<◌, arith, length, get_or}
use Rattle.std.specs.Prelude.{AllPairs, Contains, ◌↔◌, slice_get}
use Rattle.std.proofs.lemmas.List.Sums.{position_or_len_is, passes_at_first}
use Rattle.std.proofs.lemmas.List.Elements.{Contains-get_or}
use Rattle.std.proofs.lemmas.Option.{slice_get_within, get_or_from_slice_get}
use Rattle.std.proofs.lemmas.Bool.{false_from_ne_true}
use Rattle.cost.specs.Distances.{Distance}
use Rattle.translate_theory.specs.Bounds.{ValidPlansCostAtLeast}
use Rattle.fdr.specs.Tasks.{IsPlan, plan_cost, EveryPlanCostsAtLeast, HasNoPlan}
use Rattle.pddl_task.specs.Atoms.{Atom, State, contains, at_most_one}
use Rattle.pddl_task.specs.Planning.{PlanningTask, IsPlanningTask, Action, IsActionOf}
use Rattle.pddl_task.specs.Plans.{is_applicable, IsValidPlan, IsReachedBy, total_cost, HasNoValidPlan}
use Rattle.ground_theory.specs.Grounding.{AreListedAtoms, AreListedActions}
use Rattle.mutex_index.specs.Groups.{is_usable}
use Rattle.translate_theory.specs.Translations.{Variable, AreVariables, value_in, translation, AreOperatorsOf}
use Rattle.pddl_task.proofs.Lists.{Mem, mem_from_contains, mem_get, all_mem}
use Rattle.pddl_task.proofs.AtomLaws.{one_of, one_single}
use Rattle.ground_theory.proofs.Runs.{IsInside, kept_along, step_inside, initial_inside, applies_over}
use Rattle.mutex_index.proofs.GroupLaws.{one_after}
use Rattle.translate_theory.proofs.Following.{group_initially, adds_one, over_at, variable_cases, variable_at}
use Rattle.translate_theory.proofs.SamePlans.{plans_same, costs_same, operators_of_plan, actions_of_plan}

module _ (task : PlanningTask) (atoms : List Atom) (actions : List Action) (listed : AreListedAtoms task atoms) (all : AreListedActions task atoms actions) where
  listed_when : (state : State) (a : Action) → IsInside (contains atoms) state → IsActionOf task a → is_applicable state a ≡ true → Mem a actions
  listed_when state a inside is app = mem_from_contains actions a (all.complete a is (applies_over (contains atoms) state a inside app))

  -- a usable group keeps at most one true atom
  pub one_along : (g : List Atom) → is_usable task actions g ≡ true → (plan : List Action) (state : State) → IsReachedBy task plan state → at_most_one state g ≡ true
  one_along g usable plan state reached =
      (kept_along task (λ s. IsInside (contains atoms) s × (at_most_one s g ≡ true))
      (λ s a (inside, one) is app.
      let m = listed_when s a inside is app in
      (step_inside task (contains atoms) listed.is_closed.closed s a inside is app, one_after s a app g one (adds_one task actions g usable a m) (over_at task actions g usable a m)))
      plan (contains task.initial) state
      (initial_inside task (contains atoms) listed.is_closed.initial, group_initially task actions g usable) reached.actions reached.run).1

module _ (task : PlanningTask) (atoms : List Atom) (actions : List Action) (variables : List Variable) (well : IsPlanningTask task)
    (listed : AreListedAtoms task atoms) (all : AreListedActions task atoms actions) (ok : AreVariables task atoms actions variables) where
  -- the plans, their operators and their costs
  pub same_plans : (plan : List Action) (cost : ℕ)
      → (IsValidPlan task plan × (total_cost plan ≡ cost))
      ↔ ((os : List ℕ) × AreOperatorsOf variables actions plan os × IsPlan (translation task variables actions) os × (plan_cost (translation task variables actions) os ≡ cost))
  same_plans plan cost = (forth, back)
    where
      forth : IsValidPlan task plan × (total_cost plan ≡ cost)
          → (os : List ℕ) × AreOperatorsOf variables actions plan os × IsPlan (translation task variables actions) os × (plan_cost (translation task variables actions) os ≡ cost)
      forth (valid, e) =
          let w = operators_of_plan task atoms actions variables well listed all ok plan valid in
          (w.0, w.1, (plans_same task atoms actions variables well listed all ok plan w.0 w.1).0 valid, sym (costs_same task atoms actions variables well listed all ok plan w.0 w.1) ∙ e)

      back : (os : List ℕ) × AreOperatorsOf variables actions plan os × IsPlan (translation task variables actions) os × (plan_cost (translation task variables actions) os ≡ cost)
          → IsValidPlan task plan × (total_cost plan ≡ cost)
      back (os, pairs, h, e) =
          ((plans_same task atoms actions variables well listed all ok plan os pairs).1 h, costs_same task atoms actions variables well listed all ok plan os pairs ∙ e)

  pub bound_forth : (bound : Distance) → EveryPlanCostsAtLeast (translation task variables actions) bound → ValidPlansCostAtLeast task bound
  bound_forth bound h plan valid =
      let w = operators_of_plan task atoms actions variables well listed all ok plan valid in
      rw (costs_same task atoms actions variables well listed all ok plan w.0 w.1)
      (h w.0 ((plans_same task atoms actions variables well listed all ok plan w.0 w.1).0 valid))

  pub bound_back : (bound : Distance) → ValidPlansCostAtLeast task bound → EveryPlanCostsAtLeast (translation task variables actions) bound
  bound_back bound h os plan =
      let w = actions_of_plan task atoms actions variables well listed all ok os plan in
      rw (← costs_same task atoms actions variables well listed all ok w.0 os w.1)
      (h w.0 ((plans_same task atoms actions variables well listed all ok w.0 os w.1).1 plan))

  pub none_forth : HasNoPlan (translation task variables actions) → HasNoValidPlan task
  none_forth h plan valid =
      let w = operators_of_plan task atoms actions variables well listed all ok plan valid in
      h w.0 ((plans_same task atoms actions variables well listed all ok plan w.0 w.1).0 valid)

  pub none_back : HasNoValidPlan task → HasNoPlan (translation task variables actions)
  none_back h os plan =
      let w = actions_of_plan task atoms actions variables well listed all ok os plan in
      h w.0 ((plans_same task atoms actions variables well listed all ok w.0 os w.1).1 plan)

  -- the value of a variable tells which of its atoms is true
  pub value_tells : (plan : List Action) (state : State) → IsReachedBy task plan state → (v : Variable) → Contains variables v
      → (k : ℕ) (p : Atom) → slice_get v.atoms k ≡ Some p → (state p ≡ true) ↔ (value_in state v ≡ k)
  value_tells plan state reached v c k p e = (forth, back)
    where
      m : Mem v variables
      m = mem_from_contains variables v c

      here : get_or v.atoms k p ≡ p
      here = get_or_from_slice_get v.atoms k p p e

      low : k < length v.atoms
      low = slice_get_within v.atoms k p e

      one : at_most_one state v.atoms ≡ true
      one = variable_cases task actions (λ v. at_most_one state v.atoms ≡ true) (one_single state)
          (λ v group several. one_along task atoms actions listed all v.atoms group.usable plan state reached)
          v (variable_at task atoms actions variables listed all ok v m)

      earlier : state p ≡ true → (j : ℕ) → j < k → state (get_or v.atoms j p) ≡ false
      earlier h j l = false_from_ne_true (state (get_or v.atoms j p)) (λ q.
          let within : j < length v.atoms = omega (arith, low, l) in
          all_mem (λ (v : Variable). AllPairs (λ p q. p ≢ q) v.atoms) variables v ok.distinct m j k p l low
          (one_of state v.atoms one (get_or v.atoms j p) p (mem_from_contains v.atoms _ (Contains-get_or v.atoms j p within)) (mem_get v.atoms k p e) q h ∙ sym here))

      forth : state p ≡ true → value_in state v ≡ k
      forth h = position_or_len_is state v.atoms k p (omega (arith, low)) (earlier h) (λ l. rw here h)

      back : value_in state v ≡ k → state p ≡ true
      back q = let there = passes_at_first state v.atoms p (rw q low) in rw (q, here) at there
