-- The text of a plan of a finite-domain task spells the steps that its operators' names spell.
use Rattle.std.proofs.Common.{◌≡◌, ℕ, ◌^◌, ◌<◌, ◌≤◌, List, [], ◌∷◌, ◌++◌, Option, sym, ap, subst, ◌∙◌, arith, refl}
use Rattle.std.specs.Prelude.{◌==◌, All, not, map, length, codes, decimal, slice_get}
use Rattle.std.specs.List.{flat_map, join_with_byte, AllByRecursion}
use Rattle.std.specs.Option.{option_map_or}
use Rattle.std.proofs.lemmas.List.{append-nil, length-map}
use Rattle.std.proofs.lemmas.List.Elements.{All-head, All-tail}
use Rattle.std.proofs.lemmas.List.Splits.{length-slice_split, join_with_byte-slice_split}
use Rattle.std.proofs.lemmas.Option.{slice_get-get_or}
use Rattle.fdr.specs.Tasks.{FiniteDomainTask, Operator}
use Rattle.sasfile_writer.specs.Plans.{operator_line, sas_plan_text}
use Rattle.sasfile_writer.specs.Plans as sas
use Rattle.validate.specs.Written.{spaced, step_line, plan_text_of}
use Rattle.validate.specs.PlanTexts.{max_steps, SpellsPlan}
use Rattle.validate.specs.PlanWords.{IsPlanStep}
use Rattle.validate.proofs.WrittenPlans.{written_by}
use Rattle.optplan_pddl.specs.Steps.{words_of, step_of_words, HasStepNames, operator_step}
use Rattle.optplan_pddl.proofs.SameTexts.{kind_same}

-- ---- a name, from the step that it spells

words_joined : (w : List ℕ) (ws : List (List ℕ)) → join_with_byte 32 (w ∷ ws) ≡ w ++ spaced ws
words_joined w [] = sym (append-nil w)
words_joined w (v ∷ ws) = ap (λ (rest : List ℕ). w ++ 32 ∷ rest) (words_joined v ws)

step_joined : (ws : List (List ℕ)) → 0 < length ws → join_with_byte 32 ws ≡ (step_of_words ws).name ++ spaced (step_of_words ws).arguments
step_joined [] filled = absurd (omega arith)
step_joined (w ∷ ws) filled = words_joined w ws

name_again : (text : List ℕ) → (step_of_words (words_of text)).name ++ spaced (step_of_words (words_of text)).arguments ≡ text
name_again text = sym (step_joined (words_of text) (omega (arith, length-slice_split (λ b. b == 32) text))) ∙ join_with_byte-slice_split 32 text

line_again : (text : List ℕ) → codes "(" ++ text ++ codes ")\n" ≡ step_line (step_of_words (words_of text))
line_again text = ap (λ (name : List ℕ). codes "(" ++ name ++ codes ")\n") (sym (name_again text))

-- ---- the operators of a task

module _ (task : FiniteDomainTask) where
  lines_again : (plan : List ℕ) → flat_map (operator_line task) plan ≡ flat_map step_line (map (operator_step task) plan)
  lines_again [] = refl
  lines_again (o ∷ plan) =
      ap (λ (line : List ℕ). line ++ flat_map (operator_line task) plan) (line_again (option_map_or (λ (op : Operator). op.name) (slice_get task.operators o) []))
      ∙ ap (λ (rest : List ℕ). step_line (operator_step task o) ++ rest) (lines_again plan)

  text_again : (plan : List ℕ) (cost : ℕ) → sas_plan_text task plan cost ≡ plan_text_of (map (operator_step task) plan) cost (not task.metric)
  text_again plan cost =
      ap (λ (lines : List ℕ). lines ++ codes "; cost = " ++ decimal cost ++ sas.cost_kind task.metric) (lines_again plan)
      ∙ ap (λ (kind : List ℕ). flat_map step_line (map (operator_step task) plan) ++ codes "; cost = " ++ decimal cost ++ kind) (kind_same task.metric)

  step_at : (o : ℕ) → HasStepNames task → o < length task.operators → IsPlanStep (operator_step task o)
  step_at o names there =
      let none_there : Operator = record { name = []; precondition = []; effect = []; cost = 0 } in
      subst (λ (r : Option Operator). IsPlanStep (step_of_words (words_of (option_map_or (λ (op : Operator). op.name) r []))))
      (sym (slice_get-get_or task.operators o none_there there)) (names o none_there there)

  steps_at : (plan : List ℕ) → HasStepNames task → All (λ o. o < length task.operators) plan → AllByRecursion IsPlanStep (map (operator_step task) plan)
  steps_at [] names there = tt
  steps_at (o ∷ plan) names there =
      (step_at o names (All-head (λ p. p < length task.operators) o plan there), steps_at plan names (All-tail (λ p. p < length task.operators) o plan there))

pub named_text_is : (task : FiniteDomainTask) (plan : List ℕ) (cost : ℕ) → HasStepNames task → All (λ o. o < length task.operators) plan → length plan ≤ max_steps → cost < 2 ^ 64
    → length (sas_plan_text task plan cost) ≤ 2 ^ 24 → SpellsPlan (sas_plan_text task plan cost) (map (operator_step task) plan)
named_text_is task plan cost names there few room short =
    written_by (sas_plan_text task plan cost) (map (operator_step task) plan) (map (operator_step task) plan) cost (not task.metric) (text_again task plan cost) refl
    (steps_at task plan names there) (subst (λ (n : ℕ). n ≤ max_steps) (sym (length-map plan (operator_step task))) few) room short
