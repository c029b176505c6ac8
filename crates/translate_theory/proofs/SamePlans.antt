-- The planning task and its translation have the same plans.
use Rattle.std.proofs.Common.{◌≡◌, ℕ, Bool, true, false, not, cond, eqb, List, [], ◌∷◌, Option, Some, None, refl, sym, ap, arith, ◌∙◌}
use Rattle.std.specs.Prelude.{All, Contains, unwrap_or, map, slice_get, option_and_then, IsSomeAnd, ◌↔◌}
use Rattle.std.specs.List.{list_all, filter_map}
use Rattle.std.specs.Option.{option_map_or, option_map}
use Rattle.std.proofs.lemmas.Bool.{and_parts, and_from, or_left, or_right, both_ways, not-true, not_from_false, eqb-true, cond_both, cond-false}
use Rattle.std.proofs.lemmas.Option.{slice_get-map, same_Some}
use Rattle.std.proofs.lemmas.List.Sums.{sum_by-cons}
use Rattle.std.proofs.lemmas.List.Elements.{All-nil, All-cons, All-head, All-tail}
use Rattle.fdr.specs.Tasks as finite
use Rattle.fdr.specs.Tasks.{FiniteDomainTask, Operator, holds, applies, successor, step, is_goal_state, IsPlan, cost_of, plan_cost}
use Rattle.pddl_task.specs.Atoms.{Atom, State, Literal, contains, at_most_one, satisfies, wants, excludes, is_contradictory, has_wanted}
use Rattle.pddl_task.specs.Planning.{PlanningTask, IsPlanningTask, Schema, Action, IsActionOf, has_instance, cost_of_schema, literal_of, atoms_of}
use Rattle.pddl_task.specs.Plans.{is_applicable, next_state, state_after, LeadsToGoal, IsValidPlan, total_cost}
use Rattle.ground_theory.specs.Grounding.{AreListedAtoms, AreListedActions}
use Rattle.mutex_index.specs.Groups.{is_excluded}
use Rattle.translate_theory.specs.Translations.{Variable, AreVariables, value_in, condition_on, target_on, effect_on, unless_equal, facts, has_operator, operator_of, carried, translation, AreOperatorsOf}
use Rattle.pddl_task.proofs.Lists.{Mem, mem_get, get_of_mem, mem_filter, filter_mem, all_mem, bool_same, contains_from_mem, all_at, all_from, any_from, map_same}
use Rattle.pddl_task.proofs.AtomLaws.{one_single, one_less, wanted_holds, excluded_fails, consistent_from}
use Rattle.translate_theory.proofs.FactLaws.{facts_hold, facts_set}
use Rattle.translate_theory.proofs.Following.{Follows, variable_cases, variable_at, follows_initial, follows_next, is_listed, value_follows, condition_met, met_satisfies}

-- where the condition is met, what an effect that is left out would write is there already
effect_suffices : (target condition : Option ℕ) (x : ℕ) → option_map_or (λ y. eqb x y) condition true ≡ true
    → unwrap_or (unless_equal target condition) x ≡ unwrap_or target x
effect_suffices None c x h = refl
effect_suffices (Some y) None x h = refl
effect_suffices (Some y) (Some z) x h =
    cond_both (eqb y z) None (Some y) (λ r. unwrap_or r x ≡ y) (λ e. eqb-true x z h ∙ sym (eqb-true y z e)) (λ e. refl)

same_choice : {X : Type 0} (b : Bool) (x y : X) → (b ≡ true → x ≡ y) → cond b (Some x) None ≡ cond b (Some y) None
same_choice true x y h = ap Some (h refl)
same_choice false x y h = refl

-- without the metric an action costs 1
unit_cost : (task : PlanningTask) (a : Action) → IsActionOf task a → task.metric ≡ false → a.cost ≡ 1
unit_cost task a is plain = go (slice_get task.schemas a.schema) is
  where
    made : Schema → Action
    made schema =
        record {
          schema = a.schema;
          objects = a.objects;
          precondition = filter_map (literal_of a.objects) schema.precondition;
          adds = atoms_of a.objects true schema.effect;
          deletes = atoms_of a.objects false schema.effect;
          cost = cost_of_schema task a.objects schema.increases;
        }

    chosen : (schema : Schema) (b : Bool) → cond b (Some (made schema)) None ≡ Some a → a.cost ≡ 1
    chosen schema true e =
        let same : (made schema).cost ≡ a.cost = ap (λ b. b.cost) (same_Some (made schema) a e) in
        sym same ∙ cond-false task.metric _ 1 plain
    chosen schema false e = cc e

    go : (r : Option Schema) → option_and_then (λ schema. cond (has_instance task schema a.objects) (Some (made schema)) None) r ≡ Some a → a.cost ≡ 1
    go None e = cc e
    go (Some schema) e = chosen schema (has_instance task schema a.objects) e

module _ (task : PlanningTask) (atoms : List Atom) (actions : List Action) (variables : List Variable) (well : IsPlanningTask task)
    (listed : AreListedAtoms task atoms) (all : AreListedActions task atoms actions) (ok : AreVariables task atoms actions variables) where
  values : State → List ℕ
  values state = map (value_in state) variables

  -- literals that are consistent hold exactly where their facts do
  facts_are_literals : (state : State) → Follows task atoms actions variables state → (literals : List Literal)
      → ((p : Atom) → excludes literals p ≡ true → is_excluded task actions p ≡ true) → has_wanted (contains atoms) literals ≡ true
      → is_contradictory literals ≡ false → list_all (λ v. at_most_one (wants literals) v.atoms) variables ≡ true
      → list_all (holds (map (value_in state) variables)) (facts (condition_on literals) variables) ≡ satisfies state literals
  facts_are_literals state fits literals known over sound one =
      facts_hold (condition_on literals) (value_in state) variables
      ∙ bool_same (list_all agrees variables) (satisfies state literals)
      (λ h. met_satisfies task atoms actions variables listed all ok state fits literals known over sound
      (λ v m. all_at (λ (v : Variable). at_most_one (wants literals) v.atoms) variables v one m) (λ v m. all_at agrees variables v h m))
      (λ h. all_from agrees variables (λ v m. condition_met task atoms actions variables listed all ok state fits literals known over v m h))
    where
      agrees : Variable → Bool
      agrees v = option_map_or (λ x. eqb (value_in state v) x) (condition_on literals v) true

  abbrev fd : FiniteDomainTask
  fd = translation task variables actions

  -- an action that an operator stands for is listed
  operator_listed : (o : ℕ) (a : Action) → slice_get (carried variables actions) o ≡ Some a → Mem a actions × (has_operator variables a ≡ true)
  operator_listed o a e = filter_mem (has_operator variables) actions a (mem_get (carried variables actions) o a e)

  listed_grounded : (a : Action) → Mem a actions → IsActionOf task a
  listed_grounded a m = all_mem (IsActionOf task) actions a all.grounded m

  -- the operator applies exactly where the action does
  applies_same : (state : State) (a : Action) → Follows task atoms actions variables state → Mem a actions → has_operator variables a ≡ true
      → applies (operator_of task.vocabulary variables a) (map (value_in state) variables) ≡ is_applicable state a
  applies_same state a fits m has =
      let parts = and_parts (not (is_contradictory a.precondition)) (list_all (λ v. at_most_one (wants a.precondition) v.atoms) variables) has in
      facts_are_literals state fits a.precondition
      (λ p x. or_left _ _ (any_from (λ (b : Action). excludes b.precondition p) actions a m x))
      (all_mem (λ (b : Action). has_wanted (contains atoms) b.precondition ≡ true) actions a all.over m)
      (not-true (is_contradictory a.precondition) parts.0) parts.1

  -- and leads to the values of the next state
  successor_same : (state : State) (a : Action) → Follows task atoms actions variables state → Mem a actions → is_applicable state a ≡ true
      → successor (operator_of task.vocabulary variables a) (map (value_in state) variables) ≡ map (value_in (next_state state a)) variables
  successor_same state a fits m app =
      facts_set (effect_on a) (value_in state) variables
      ∙ map_same (λ v. unwrap_or (effect_on a v) (value_in state v)) (value_in (next_state state a)) variables
      (λ v mv.
      effect_suffices (target_on a v) (condition_on a.precondition v) (value_in state v)
      (condition_met task atoms actions variables listed all ok state fits a.precondition
      (λ p x. or_left _ _ (any_from (λ (b : Action). excludes b.precondition p) actions a m x))
      (all_mem (λ (b : Action). has_wanted (contains atoms) b.precondition ≡ true) actions a all.over m) v mv app)
      ∙ sym (value_follows task atoms actions variables listed all ok state a fits m app v mv))

  step_same : (state : State) (a : Action) (o : ℕ) → Follows task atoms actions variables state → slice_get (carried variables actions) o ≡ Some a
      → step fd (map (value_in state) variables) o ≡ cond (is_applicable state a) (Some (map (value_in (next_state state a)) variables)) None
  step_same state a o fits e =
      let there = operator_listed o a e in
      let found : slice_get fd.operators o ≡ Some (operator_of task.vocabulary variables a) = slice_get-map (operator_of task.vocabulary variables) (carried variables actions) o ∙ ap (option_map (operator_of task.vocabulary variables)) e in
      rw (found, applies_same state a fits there.0 there.1)
      (same_choice (is_applicable state a) _ _ (successor_same state a fits there.0))

  goal_same : (state : State) → Follows task atoms actions variables state → is_goal_state fd (map (value_in state) variables) ≡ satisfies state task.goal
  goal_same state fits =
      facts_are_literals state fits task.goal (λ p x. or_right _ _ x) listed.is_closed.goal well.goal
      (all_from (λ (v : Variable). at_most_one (wants task.goal) v.atoms) variables (λ v m.
      variable_cases task actions (λ v. at_most_one (wants task.goal) v.atoms ≡ true) (λ p. one_single (wants task.goal) p) (λ v group several. group.one_goal) v
      (variable_at task atoms actions variables listed all ok v m)))

  -- from a state, actions lead to the goal exactly where their operators do
  same_from : (plan : List Action) (os : List ℕ) (state : State) → Follows task atoms actions variables state → AreOperatorsOf variables actions plan os
      → LeadsToGoal task state plan ↔ finite.LeadsToGoal fd (map (value_in state) variables) os
  same_from [] [] state fits pairs = let e = goal_same state fits in (λ h. e ∙ h, λ h. sym e ∙ h)
  same_from [] (o ∷ os) state fits pairs = absurd pairs
  same_from (a ∷ plan) [] state fits pairs = absurd pairs
  same_from (a ∷ plan) (o ∷ os) state fits pairs =
      rw (step_same state a o fits pairs.0) (go (is_applicable state a) refl (λ next. same_from plan os (next_state state a) next pairs.1))
    where
      go : (b : Bool) → is_applicable state a ≡ b
          → (Follows task atoms actions variables (next_state state a) → LeadsToGoal task (next_state state a) plan ↔ finite.LeadsToGoal fd (map (value_in (next_state state a)) variables) os)
          → IsSomeAnd (cond b (state_after (next_state state a) plan) None) (λ s. satisfies s task.goal ≡ true)
          ↔ IsSomeAnd (option_and_then (λ s. finite.state_after fd s os) (cond b (Some (map (value_in (next_state state a)) variables)) None)) (λ s. is_goal_state fd s ≡ true)
      go true app ih = ih (follows_next task atoms actions variables listed all ok state a fits (operator_listed o a pairs.0).0 app)
      go false app ih = (λ h. h, λ h. h)

  -- an action that applies has an operator
  applies_has : (state : State) (a : Action) → Follows task atoms actions variables state → is_applicable state a ≡ true → has_operator variables a ≡ true
  applies_has state a fits app =
      and_from _ _
      (not_from_false (is_contradictory a.precondition) (consistent_from a.precondition (λ p w x. both_ways (state p) (excluded_fails a.precondition state p app x) (wanted_holds a.precondition state p app w))))
      (all_from (λ (v : Variable). at_most_one (wants a.precondition) v.atoms) variables
      (λ v m. one_less state (wants a.precondition) v.atoms (fits.single v m) (λ p mp w. wanted_holds a.precondition state p app w)))

  -- the first action of a way to the goal applies
  first_applies : (a : Action) (plan : List Action) (state : State) → LeadsToGoal task state (a ∷ plan) → (is_applicable state a ≡ true) × LeadsToGoal task (next_state state a) plan
  first_applies a plan state goal = go (is_applicable state a) goal
    where
      go : (b : Bool) → IsSomeAnd (cond b (state_after (next_state state a) plan) None) (λ s. satisfies s task.goal ≡ true) → (b ≡ true) × LeadsToGoal task (next_state state a) plan
      go true h = (refl, h)
      go false h = absurd h

  -- a plan's actions have operators
  operators_from : (plan : List Action) (state : State) → Follows task atoms actions variables state → All (IsActionOf task) plan → LeadsToGoal task state plan
      → (os : List ℕ) × AreOperatorsOf variables actions plan os
  operators_from [] state fits ground goal = ([], tt)
  operators_from (a ∷ plan) state fits ground goal =
      let first = first_applies a plan state goal in
      let m = is_listed task atoms actions variables listed all ok state a fits (All-head (IsActionOf task) a plan ground) first.0 in
      let rest = operators_from plan (next_state state a) (follows_next task atoms actions variables listed all ok state a fits m first.0) (All-tail (IsActionOf task) a plan ground) first.1 in
      let o = get_of_mem (carried variables actions) a (mem_filter (has_operator variables) actions a m (applies_has state a fits first.0)) in
      (o.0 ∷ rest.0, (o.1, rest.1))

  -- and the operators of a plan of the translation have actions
  actions_from : (os s : List ℕ) → finite.LeadsToGoal fd s os → (plan : List Action) × AreOperatorsOf variables actions plan os
  actions_from [] s goal = ([], tt)
  actions_from (o ∷ os) s goal = go (slice_get (carried variables actions) o) refl (rw (slice_get-map (operator_of task.vocabulary variables) (carried variables actions) o) at goal) (actions_from os)
    where
      rest : (op : Operator) (b : Bool) → IsSomeAnd (option_and_then (λ t. finite.state_after fd t os) (cond b (Some (successor op s)) None)) (λ t. is_goal_state fd t ≡ true) → finite.LeadsToGoal fd (successor op s) os
      rest op true h = h
      rest op false h = absurd h

      go : (r : Option Action) → slice_get (carried variables actions) o ≡ r
          → IsSomeAnd (option_and_then (λ t. finite.state_after fd t os) (option_and_then (λ op. cond (applies op s) (Some (successor op s)) None) (option_map (operator_of task.vocabulary variables) r))) (λ t. is_goal_state fd t ≡ true)
          → ((t : List ℕ) → finite.LeadsToGoal fd t os → (plan : List Action) × AreOperatorsOf variables actions plan os)
          → (plan : List Action) × AreOperatorsOf variables actions plan (o ∷ os)
      go None e h ih = absurd h
      go (Some a) e h ih = let w = ih (successor (operator_of task.vocabulary variables a) s) (rest (operator_of task.vocabulary variables a) (applies (operator_of task.vocabulary variables a) s) h) in (a ∷ w.0, (e, w.1))

  plan_grounded : (plan : List Action) (os : List ℕ) → AreOperatorsOf variables actions plan os → All (IsActionOf task) plan
  plan_grounded [] [] pairs = All-nil (IsActionOf task)
  plan_grounded [] (o ∷ os) pairs = absurd pairs
  plan_grounded (a ∷ plan) [] pairs = absurd pairs
  plan_grounded (a ∷ plan) (o ∷ os) pairs = All-cons (IsActionOf task) a plan (listed_grounded a (operator_listed o a pairs.0).0) (plan_grounded plan os pairs.1)

  -- operators cost what their actions do
  cost_same : (a : Action) (o : ℕ) → slice_get (carried variables actions) o ≡ Some a → cost_of fd o ≡ a.cost
  cost_same a o e =
      let found : slice_get fd.operators o ≡ Some (operator_of task.vocabulary variables a) = slice_get-map (operator_of task.vocabulary variables) (carried variables actions) o ∙ ap (option_map (operator_of task.vocabulary variables)) e in
      rw found (cond_both task.metric a.cost 1 (λ n. n ≡ a.cost) (λ m. refl) (λ m. sym (unit_cost task a (listed_grounded a (operator_listed o a e).0) m)))

  pub costs_same : (plan : List Action) (os : List ℕ) → AreOperatorsOf variables actions plan os → total_cost plan ≡ plan_cost fd os
  costs_same [] [] pairs = refl
  costs_same [] (o ∷ os) pairs = absurd pairs
  costs_same (a ∷ plan) [] pairs = absurd pairs
  costs_same (a ∷ plan) (o ∷ os) pairs =
      omega (arith, costs_same plan os pairs.1, cost_same a o pairs.0, sum_by-cons (λ (b : Action). b.cost) a plan, sum_by-cons (cost_of fd) o os)

  start : Follows task atoms actions variables (contains task.initial)
  start = follows_initial task atoms actions variables listed all ok

  -- a list of actions is a valid plan exactly where its operators are a plan
  pub plans_same : (plan : List Action) (os : List ℕ) → AreOperatorsOf variables actions plan os → IsValidPlan task plan ↔ IsPlan fd os
  plans_same plan os pairs =
      let same = same_from plan os (contains task.initial) start pairs in
      (λ valid. same.0 valid.goal, λ h. record { actions = plan_grounded plan os pairs; goal = same.1 h })

  pub operators_of_plan : (plan : List Action) → IsValidPlan task plan → (os : List ℕ) × AreOperatorsOf variables actions plan os
  operators_of_plan plan valid = operators_from plan (contains task.initial) start valid.actions valid.goal

  pub actions_of_plan : (os : List ℕ) → IsPlan fd os → (plan : List Action) × AreOperatorsOf variables actions plan os
  actions_of_plan os h = actions_from os fd.initial h

  pub plan_listed : (plan : List Action) → IsValidPlan task plan → All (Contains actions) plan
  plan_listed plan valid = go plan (operators_of_plan plan valid).0 (operators_of_plan plan valid).1
    where
      go : (plan : List Action) (os : List ℕ) → AreOperatorsOf variables actions plan os → All (Contains actions) plan
      go [] [] pairs = All-nil (Contains actions)
      go [] (o ∷ os) pairs = absurd pairs
      go (a ∷ plan) [] pairs = absurd pairs
      go (a ∷ plan) (o ∷ os) pairs = All-cons (Contains actions) a plan (contains_from_mem actions a (operator_listed o a pairs.0).0) (go plan os pairs.1)
