-- What the laws promise.
use Rattle.std.proofs.Common.{ℕ, ◌<◌, ◌≤◌, ◌^◌, true, List, [], ◌∷◌, length, map, not, sym, subst}
use Rattle.std.specs.Prelude.{All}
use Rattle.std.specs.List.{AllByRecursion}
use Rattle.std.proofs.lemmas.List.{length-map}
use Rattle.std.proofs.lemmas.List.Elements.{All-head, All-tail}
use Rattle.sexp.specs.Limits.{max_bytes}
use Rattle.pddl_task.specs.Planning.{PlanningTask, Action, IsActionOf}
use Rattle.pddl_task.specs.Plans.{IsValidPlan, total_cost}
use Rattle.pddl.specs.Texts.{SpellTask}
use Rattle.pddl_laws.proofs.Counts.{spelled_objects, spelled_schemas}
use Rattle.validate.specs.Steps.{Step}
use Rattle.validate.specs.Written.{name_of}
use Rattle.validate.specs.PlanTexts.{max_steps, SpellsPlan}
use Rattle.validate.specs.Verdicts.{IsVerdict}
use Rattle.validate.specs.declared.verdict.Verdict.TheVariants.{Valid}
use Rattle.optplan_pddl.specs.Plans.{step_of, text_of_plan}
use Rattle.optplan_pddl.proofs.NamedActions.{action_numbers}
use Rattle.optplan_pddl.proofs.SpelledSteps.{name_is}
use Rattle.optplan_pddl.proofs.PlanVerdicts.{plan_has_verdict}
use Rattle.validate.specs.PlanWords.{IsPlanWord, IsPlanStep}
use Rattle.validate.proofs.SpelledPlans.{spelled_are_plan_words}
use Rattle.validate.proofs.WrittenPlans.{written_is}
use Rattle.optplan_pddl.specs.PlanNames.{NamesAre}
use Rattle.optplan_pddl.proofs.NamedWords.{names_are}

pub plan_names_are : (domain problem : List ℕ) (t : PlanningTask) → SpellTask domain problem t → NamesAre IsPlanWord t.vocabulary
plan_names_are domain problem t s =
    names_are IsPlanWord domain problem t s (spelled_are_plan_words true 0 0 domain s.d s.domain_tree.1.1) (spelled_are_plan_words true 0 0 problem s.p s.problem_tree.1.1)

named_is : (names : List (List ℕ)) (n : ℕ) → All IsPlanWord names → n < length names → IsPlanWord (name_of names n)
named_is names n h within = subst IsPlanWord (name_is names n) (h n [] within)

all_named : (names : List (List ℕ)) (ns : List ℕ) → All IsPlanWord names → All (λ n. n < length names) ns → AllByRecursion IsPlanWord (map (name_of names) ns)
all_named names [] h within = tt
all_named names (n ∷ ns) h within =
    (named_is names n h (All-head (λ m. m < length names) n ns within), all_named names ns h (All-tail (λ m. m < length names) n ns within))

module _ (domain problem : List ℕ) (task : PlanningTask) (spelled : SpellTask domain problem task) where
  pub step_is : (a : Action) → IsActionOf task a → IsPlanStep (step_of task.vocabulary a)
  step_is a is =
      let names = plan_names_are domain problem task spelled in
      let numbers = action_numbers task a is in
      record {
        name = named_is task.vocabulary.schemas a.schema names.of_schemas (subst (λ (n : ℕ). a.schema < n) (spelled_schemas domain problem task spelled) numbers.0);
        arguments = all_named task.vocabulary.objects a.objects names.of_objects (subst (λ (n : ℕ). All (λ o. o < n) a.objects) (spelled_objects domain problem task spelled) numbers.1);
      }

  steps_are : (actions : List Action) → All (IsActionOf task) actions → AllByRecursion IsPlanStep (map (step_of task.vocabulary) actions)
  steps_are [] h = tt
  steps_are (a ∷ actions) h = (step_is a (All-head (IsActionOf task) a actions h), steps_are actions (All-tail (IsActionOf task) a actions h))

  pub task_plan_is : (actions : List Action) (cost : ℕ) → All (IsActionOf task) actions → length (map (step_of task.vocabulary) actions) ≤ max_steps → cost < 2 ^ 64 → length (text_of_plan task actions cost) ≤ max_bytes
      → SpellsPlan (text_of_plan task actions cost) (map (step_of task.vocabulary) actions)
  task_plan_is actions cost h few room short = written_is (map (step_of task.vocabulary) actions) cost (not task.metric) (steps_are actions h) few room short

pub task_plan_by : (domain problem : List ℕ) (task : PlanningTask) (actions : List Action) (cost : ℕ) → SpellTask domain problem task → All (IsActionOf task) actions → length actions ≤ max_steps → cost < 2 ^ 64
    → length (text_of_plan task actions cost) ≤ max_bytes → SpellsPlan (text_of_plan task actions cost) (map (step_of task.vocabulary) actions)
task_plan_by domain problem task actions cost spelled h few room short =
    task_plan_is domain problem task spelled actions cost h (subst (λ (n : ℕ). n ≤ max_steps) (sym (length-map actions (step_of task.vocabulary))) few) room short

-- the text of a valid plan spells a plan that is valid at that cost
pub valid_plan_is : (domain problem : List ℕ) (task : PlanningTask) (actions : List Action) → SpellTask domain problem task → IsValidPlan task actions → length actions ≤ max_steps → total_cost actions < 2 ^ 64
    → length (text_of_plan task actions (total_cost actions)) ≤ max_bytes
    → (steps : List Step) × SpellsPlan (text_of_plan task actions (total_cost actions)) steps × IsVerdict task steps (Valid (total_cost actions))
valid_plan_is domain problem task actions spelled valid few room short =
    (map (step_of task.vocabulary) actions, task_plan_by domain problem task actions (total_cost actions) spelled valid.actions few room short, plan_has_verdict domain problem task spelled actions valid)
