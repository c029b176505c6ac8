-- The steps that name actions name these actions again.
use Rattle.std.proofs.Common.{◌≡◌, ℕ, ◌<◌, List, [], ◌∷◌, Option, Some, refl, ap, subst, ◌∙◌}
use Rattle.std.specs.Prelude.{All, length, map, option_and_then}
use Rattle.std.proofs.lemmas.List.Elements.{All-head, All-tail}
use Rattle.std.proofs.lemmas.Option.{slice_get-get_or}
use Rattle.pddl_names.specs.Names.{place_of, AreDistinct}
use Rattle.pddl_task.specs.Planning.{PlanningTask, Action, IsActionOf, action_of}
use Rattle.pddl_task.specs.Plans.{IsValidPlan, total_cost}
use Rattle.pddl.specs.Texts.{SpellTask}
use Rattle.pddl_laws.proofs.Counts.{spelled_objects, spelled_schemas}
use Rattle.validate.specs.Steps.{with_number, numbers_of, action_named, AreActionsOf}
use Rattle.validate.specs.Verdicts.{IsVerdict}
use Rattle.validate.specs.declared.verdict.Verdict.TheVariants.{Valid}
use Rattle.validate.specs.Written.{name_of}
use Rattle.optplan_pddl.specs.Plans.{step_of}
use Rattle.pddl_laws.proofs.DistinctNames.{distinct_objects, distinct_schemas}
use Rattle.optplan_pddl.proofs.NamedActions.{action_numbers}
use Rattle.optplan_pddl.proofs.SpelledSteps.{name_is}

place_again : (names : List (List ℕ)) (n : ℕ) → AreDistinct names → n < length names → place_of names (name_of names n) ≡ Some n
place_again names n distinct within = distinct n (name_of names n) (slice_get-get_or names n [] within ∙ ap Some (name_is names n))

numbers_again : (names : List (List ℕ)) (ns : List ℕ) → AreDistinct names → All (λ n. n < length names) ns → numbers_of names (map (name_of names) ns) ≡ Some ns
numbers_again names [] distinct within = refl
numbers_again names (n ∷ ns) distinct within =
    ap (λ (r : Option ℕ). with_number r (numbers_of names (map (name_of names) ns))) (place_again names n distinct (All-head (λ m. m < length names) n ns within))
    ∙ ap (with_number (Some n)) (numbers_again names ns distinct (All-tail (λ m. m < length names) n ns within))

module _ (domain problem : List ℕ) (task : PlanningTask) (spelled : SpellTask domain problem task) where
  named_again : (a : Action) → IsActionOf task a → action_named task (step_of task.vocabulary a) ≡ Some a
  named_again a is =
      let numbers = action_numbers task a is in
      let schema = subst (λ (n : ℕ). a.schema < n) (spelled_schemas domain problem task spelled) numbers.0 in
      let objects = subst (λ (n : ℕ). All (λ o. o < n) a.objects) (spelled_objects domain problem task spelled) numbers.1 in
      ap (λ (r : Option ℕ). option_and_then (λ s. option_and_then (action_of task s) (numbers_of task.vocabulary.objects (map (name_of task.vocabulary.objects) a.objects))) r)
      (place_again task.vocabulary.schemas a.schema (distinct_schemas domain problem task spelled) schema)
      ∙ ap (option_and_then (action_of task a.schema)) (numbers_again task.vocabulary.objects a.objects (distinct_objects domain problem task spelled) objects)
      ∙ is

  all_named_again : (actions : List Action) → All (IsActionOf task) actions → AreActionsOf task (map (step_of task.vocabulary) actions) actions
  all_named_again [] h = tt
  all_named_again (a ∷ actions) h = (named_again a (All-head (IsActionOf task) a actions h), all_named_again actions (All-tail (IsActionOf task) a actions h))

  pub plan_has_verdict : (actions : List Action) → IsValidPlan task actions → IsVerdict task (map (step_of task.vocabulary) actions) (Valid (total_cost actions))
  plan_has_verdict actions valid = (actions, all_named_again actions valid.actions, valid, refl)
