-- The text of a plan by its operators, and that by its actions.
use Rattle.std.proofs.Common.{◌≡◌, ℕ, Bool, true, false, List, [], ◌∷◌, ◌++◌, Some, refl, ap, ◌∙◌}
use Rattle.std.specs.Prelude.{not, map, codes, decimal, slice_get}
use Rattle.std.specs.List.{flat_map}
use Rattle.fdr.specs.Tasks.{FiniteDomainTask}
use Rattle.pddl_task.specs.Planning.{PlanningTask, Action}
use Rattle.sasfile_writer.specs.Plans.{operator_line, sas_plan_text}
use Rattle.sasfile_writer.specs.Plans as sas
use Rattle.translate.specs.Translated.{TranslatedTask, IsTranslation, AreOperatorsOf, operator_actions}
use Rattle.validate.specs.Written.{step_line, cost_kind}
use Rattle.optplan_pddl.specs.Plans.{step_of, text_of_plan}
use Rattle.optplan_pddl.proofs.SpelledSteps.{action_words, operator_name}

pub kind_same : (metric : Bool) → sas.cost_kind metric ≡ cost_kind (not metric)
kind_same true = refl
kind_same false = refl

module _ (task : PlanningTask) (t : TranslatedTask) (made : IsTranslation task t) where
  line_same : (a : Action) (o : ℕ) → slice_get (operator_actions task t) o ≡ Some a → operator_line t.task o ≡ step_line (step_of task.vocabulary a)
  line_same a o e = ap (λ (name : List ℕ). codes "(" ++ name ++ codes ")\n") (operator_name task t made a o e ∙ action_words task.vocabulary a)

  lines_same : (actions : List Action) (plan : List ℕ) → AreOperatorsOf task t actions plan
      → flat_map (operator_line t.task) plan ≡ flat_map step_line (map (step_of task.vocabulary) actions)
  lines_same [] [] pairs = refl
  lines_same [] (o ∷ plan) pairs = absurd pairs
  lines_same (a ∷ actions) [] pairs = absurd pairs
  lines_same (a ∷ actions) (o ∷ plan) pairs =
      ap (λ (line : List ℕ). line ++ flat_map (operator_line t.task) plan) (line_same a o pairs.0)
      ∙ ap (λ (rest : List ℕ). step_line (step_of task.vocabulary a) ++ rest) (lines_same actions plan pairs.1)

  kind_is : sas.cost_kind t.task.metric ≡ cost_kind (not task.metric)
  kind_is = ap (λ (f : FiniteDomainTask). sas.cost_kind f.metric) made.task_is ∙ kind_same task.metric

  pub same_text : (actions : List Action) (plan : List ℕ) (cost : ℕ) → AreOperatorsOf task t actions plan → sas_plan_text t.task plan cost ≡ text_of_plan task actions cost
  same_text actions plan cost pairs =
      ap (λ (lines : List ℕ). lines ++ codes "; cost = " ++ decimal cost ++ sas.cost_kind t.task.metric) (lines_same actions plan pairs)
      ∙ ap (λ (kind : List ℕ). flat_map step_line (map (step_of task.vocabulary) actions) ++ codes "; cost = " ++ decimal cost ++ kind) kind_is
