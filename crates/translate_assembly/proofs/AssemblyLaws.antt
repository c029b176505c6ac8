-- What is computed with the slots of a translation's variables is the translation.
use Rattle.std.proofs.Common.{◌≡◌, ℕ, suc, ◌+◌, Bool, true, false, ◌&&◌, not, cond, List, [], ◌∷◌, length, map, Some, None, String, Vec, refl, ap, ◌∙◌, arith, inl, inr, eqb}
use Rattle.std.specs.Prelude.{slice_get, count_by, filter, is_some}
use Rattle.std.specs.List.{list_any, filter_map}
use Rattle.std.proofs.lemmas.Bool.{and_parts, eqb-true, false_from_ne_true, both_ways, not-true, or_left}
use Rattle.std.proofs.lemmas.List.Sums.{sum_by-cons}
use Rattle.fdr.specs.declared.fact.Fact.{Fact}
use Rattle.fdr.specs.Tasks.{Operator, names_in, task_of}
use Rattle.pddl_task.specs.Atoms.{Atom, contains, at_most_one, wants, excludes, has_wanted}
use Rattle.pddl_task.specs.Planning.{PlanningTask, Action}
use Rattle.pddl_task.proofs.Lists.{Mem, get_of_mem, all_mem, all_at, any_from}
use Rattle.pddl_task.proofs.AtomLaws.{contains_mem, one_single, wanted_in}
use Rattle.ground_theory.specs.Grounding.{AreListedActions}
use Rattle.mutex_index.specs.Groups.{removes, is_excluded, is_constant}
use Rattle.translate_theory.specs.Translations.{Variable, IsVariableOf, AreVariables, condition_on, facts, has_operator, operator_of, carried, value_in, value_names_of, translation}
use Rattle.translate_theory.proofs.Following.{variable_cases, group_initially, adds_one}
use Rattle.translate_assembly.specs.declared.slot.Slot.{Slot}
use Rattle.translate_assembly.specs.Carried.{AreCarriedAt}
use Rattle.translate_assembly.specs.Slots.{Lookup, slot_of, values_of}
use Rattle.translate_assembly.specs.Operators.{condition_facts, made_operator, places_where}
use Rattle.translate_assembly.proofs.SlotLaws.{IsLookup, slots_tell}
use Rattle.translate_assembly.proofs.StateLaws.{values_are}
use Rattle.translate_assembly.proofs.ActionLaws.{condition_is, operator_is}
use Rattle.translate_assembly.proofs.OperatorLists.{made_are, filter_same, places_count, places_rise, places_within, places_same}

-- some element passes if not none do
counted : {X : Type 0} (p : X → Bool) (xs : List X) (n : ℕ) → count_by p xs ≡ suc n → (x : X) × Mem x xs × (p x ≡ true)
counted p [] n e = absurd (omega arith)
counted {X = X} p (x ∷ xs) n e = go (p x) refl (sum_by-cons (λ x. cond (p x) 1 0) x xs) (counted p xs n)
  where
    go : (b : Bool) → p x ≡ b → count_by p (x ∷ xs) ≡ cond (p x) 1 0 + count_by p xs → (count_by p xs ≡ suc n → (y : X) × Mem y xs × (p y ≡ true)) → (y : X) × Mem y (x ∷ xs) × (p y ≡ true)
    go true q s ih = (x, inl refl, q)
    go false q s ih =
        let zero_here : ◌≡◌ {A = ℕ} (cond (p x) 1 0) 0 = rw q in
        let w = ih (omega (arith, s, e, zero_here)) in (w.0, inr w.1, w.2)

module _ (task : PlanningTask) (atoms : List Atom) (actions : List Action) (vs : List Variable)
    (all : AreListedActions task atoms actions) (ok : AreVariables task atoms actions vs) where
  abbrev slots : Lookup
  slots = slot_of vs

  lookup : IsLookup vs slots
  lookup = slots_tell task atoms actions vs ok slots (λ p. refl)

  variable_of : (v : Variable) → Mem v vs → IsVariableOf task actions v
  variable_of v m = all_mem (IsVariableOf task actions) vs v ok.each m

  one_goal : (v : Variable) → Mem v vs → at_most_one (wants task.goal) v.atoms ≡ true
  one_goal v m =
      variable_cases task actions (λ v. at_most_one (wants task.goal) v.atoms ≡ true) (λ p. one_single (wants task.goal) p) (λ v group several. group.one_goal) v (variable_of v m)

  one_initial : (v : Variable) → Mem v vs → at_most_one (contains task.initial) v.atoms ≡ true
  one_initial v m =
      variable_cases task actions (λ v. at_most_one (contains task.initial) v.atoms ≡ true) (λ p. one_single (contains task.initial) p)
      (λ v group several. group_initially task actions v.atoms group.usable) v (variable_of v m)

  one_added : (a : Action) → Mem a actions → (v : Variable) → Mem v vs → at_most_one (contains a.adds) v.atoms ≡ true
  one_added a ma v m =
      variable_cases task actions (λ v. at_most_one (contains a.adds) v.atoms ≡ true) (λ p. one_single (contains a.adds) p)
      (λ v group several. adds_one task actions v.atoms group.usable a ma) v (variable_of v m)

  -- an atom that an action wants and excludes is not constant, so it is in a variable
  in_variable : (a : Action) → Mem a actions → (p : Atom) → wants a.precondition p ≡ true → excludes a.precondition p ≡ true → (s : Slot) × (slots p ≡ Some s)
  in_variable a m p w x =
      let over = all_mem (λ (a : Action). has_wanted (contains atoms) a.precondition ≡ true) actions a all.over m in
      let there = wanted_in a.precondition (contains atoms) p over w in
      let excluded : is_excluded task actions p ≡ true = or_left _ (excludes task.goal p) (any_from (λ (b : Action). excludes b.precondition p) actions a m x) in
      let free : is_constant task actions p ≡ false = false_from_ne_true (is_constant task actions p) (λ c.
      both_ways (is_excluded task actions p) (not-true (is_excluded task actions p) (and_parts (contains task.initial p && not (list_any (λ a. removes a p) actions)) (not (is_excluded task actions p)) c).1) excluded) in
      let e = all_at (λ p. eqb (count_by (λ (v : Variable). contains v.atoms p) vs) (cond (is_constant task actions p) 0 1)) atoms p ok.covered (contains_mem atoms p there) in
      let n : count_by (λ (v : Variable). contains v.atoms p) vs ≡ 1 = eqb-true _ 1 (rw free at e) in
      let v = counted (λ (v : Variable). contains v.atoms p) vs 0 n in
      let k = get_of_mem vs v.0 v.1 in
      let s = lookup.complete p k.0 v.0 k.1 v.2 in
      (s.0, s.1)

  pub goal_is : condition_facts slots task.goal ≡ facts (condition_on task.goal) vs
  goal_is = condition_is vs slots lookup task.goal one_goal

  pub initial_is : values_of slots (map (λ v. length v.atoms) vs) task.initial ≡ map (value_in (contains task.initial)) vs
  initial_is = values_are vs slots lookup task.initial one_initial

  made_is : (a : Action) → Mem a actions → made_operator slots task.vocabulary a ≡ cond (has_operator vs a) (Some (operator_of task.vocabulary vs a)) None
  made_is a m = operator_is vs slots lookup task.vocabulary a (in_variable a m) (one_added a m)

  pub operators_are : filter_map (made_operator slots task.vocabulary) actions ≡ map (operator_of task.vocabulary vs) (carried vs actions)
  operators_are = made_are (made_operator slots task.vocabulary) (has_operator vs) (operator_of task.vocabulary vs) actions made_is

  some_is : (a : Action) → Mem a actions → is_some (made_operator slots task.vocabulary a) ≡ has_operator vs a
  some_is a m = ap is_some (made_is a m) ∙ go (has_operator vs a)
    where
      go : (b : Bool) → is_some (cond b (Some (operator_of task.vocabulary vs a)) None) ≡ b
      go true = refl
      go false = refl

  abbrev is_made : Action → Bool
  is_made a = is_some (made_operator slots task.vocabulary a)

  made_same : filter is_made actions ≡ carried vs actions
  made_same = filter_same is_made (has_operator vs) actions some_is

  pub carried_at : AreCarriedAt vs actions (places_where is_made 0 actions)
  carried_at =
      record {
        count = places_count is_made 0 actions ∙ ap length made_same;
        rising = places_rise is_made 0 actions;
        within = places_within is_made (length actions) 0 actions (omega arith);
        same = λ o p e. places_same is_made actions o p e ∙ ap (λ (l : List Action). slice_get l o) made_same;
      }

  -- the task of these parts
  pub parts_are : {Y Z : Type 0} (metric : Bool) (value_names : List (Vec (String Z) Y)) (initial : List ℕ) (goal : List Fact) (operators : List Operator)
      → metric ≡ task.metric → names_in value_names ≡ map (value_names_of task.vocabulary) vs
      → initial ≡ values_of slots (map (λ v. length v.atoms) vs) task.initial → goal ≡ condition_facts slots task.goal
      → operators ≡ filter_map (made_operator slots task.vocabulary) actions
      → task_of metric value_names initial goal operators ≡ translation task vs actions
  parts_are metric value_names initial goal operators a b c d e =
      let start = c ∙ initial_is in
      let end = d ∙ goal_is in
      let made = e ∙ operators_are in
      λ i. record { metric = a i; value_names = b i; initial = start i; goal = end i; operators = made i }
