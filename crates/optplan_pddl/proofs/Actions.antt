-- The actions of a plan of the translation.
use Rattle.std.proofs.Common.{◌≡◌, ℕ, Bool, true, false, cond, List, [], ◌∷◌, Option, Some, None, refl, sym, ap, ◌∙◌}
use Rattle.std.specs.Prelude.{slice_get, option_and_then, IsSomeAnd}
use Rattle.std.specs.Option.{option_map}
use Rattle.std.proofs.lemmas.Option.{slice_get-map}
use Rattle.fdr.specs.Tasks.{FiniteDomainTask, Operator, IsPlan, plan_cost, LeadsToGoal, state_after, is_goal_state, applies, successor}
use Rattle.pddl_task.specs.Planning.{PlanningTask, Action}
use Rattle.pddl_task.specs.Plans.{IsValidPlan, total_cost}
use Rattle.translate_theory.specs.Translations.{operator_of}
use Rattle.translate_theory.specs.Variables.{variables_at}
use Rattle.translate.specs.Translated.{TranslatedTask, IsTranslation, HasSamePlans, AreOperatorsOf, operator_actions}
use Rattle.optplan_pddl.proofs.SpelledSteps.{operators_are}

-- the first operator on the way to the goal, and the way from the state behind it
first_of_way : (f : FiniteDomainTask) (s : List ℕ) (o : ℕ) (os : List ℕ) → LeadsToGoal f s (o ∷ os)
    → (op : Operator) × (slice_get f.operators o ≡ Some op) × LeadsToGoal f (successor op s) os
first_of_way f s o os goal = go (slice_get f.operators o) refl goal
  where
    behind : (op : Operator) (b : Bool) → IsSomeAnd (option_and_then (λ t. state_after f t os) (cond b (Some (successor op s)) None)) (λ t. is_goal_state f t ≡ true) → LeadsToGoal f (successor op s) os
    behind op true h = h
    behind op false h = absurd h

    go : (r : Option Operator) → slice_get f.operators o ≡ r
        → IsSomeAnd (option_and_then (λ t. state_after f t os) (option_and_then (λ op. cond (applies op s) (Some (successor op s)) None) r)) (λ t. is_goal_state f t ≡ true)
        → (op : Operator) × (slice_get f.operators o ≡ Some op) × LeadsToGoal f (successor op s) os
    go None e h = absurd h
    go (Some op) e h = (op, e, behind op (applies op s) h)

module _ (task : PlanningTask) (t : TranslatedTask) (made : IsTranslation task t) where
  action_at : (o : ℕ) (op : Operator) → slice_get t.task.operators o ≡ Some op → (a : Action) × (slice_get (operator_actions task t) o ≡ Some a)
  action_at o op e =
      go (slice_get (operator_actions task t) o) refl
      (sym (ap (λ (ops : List Operator). slice_get ops o) (operators_are task t made)
      ∙ slice_get-map (operator_of task.vocabulary (variables_at t.atoms t.variables)) (operator_actions task t) o) ∙ e)
    where
      go : (r : Option Action) → slice_get (operator_actions task t) o ≡ r → option_map (operator_of task.vocabulary (variables_at t.atoms t.variables)) r ≡ Some op
          → (a : Action) × (slice_get (operator_actions task t) o ≡ Some a)
      go None q h = absurd cc
      go (Some a) q h = (a, q)

  actions_of_way : (os s : List ℕ) → LeadsToGoal t.task s os → (actions : List Action) × AreOperatorsOf task t actions os
  actions_of_way [] s goal = ([], tt)
  actions_of_way (o ∷ os) s goal =
      let first = first_of_way t.task s o os goal in
      let a = action_at o first.0 first.1 in
      let rest = actions_of_way os (successor first.0 s) first.2 in
      (a.0 ∷ rest.0, (a.1, rest.1))

  pub plan_is_valid : (plan : List ℕ) → HasSamePlans task t → IsPlan t.task plan
      → (actions : List Action) × AreOperatorsOf task t actions plan × IsValidPlan task actions × (total_cost actions ≡ plan_cost t.task plan)
  plan_is_valid plan same h =
      let w = actions_of_way plan t.task.initial h in
      let valid = (same.plans w.0 (plan_cost t.task plan)).1 (plan, w.1, h, refl) in
      (w.0, w.1, valid.0, valid.1)
