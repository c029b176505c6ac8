-- The steps that operators' names spell.
use Rattle.std.specs.Prelude.{ℕ, ◌==◌, List, [], ◌∷◌, slice_get, All}
use Rattle.std.specs.List.{slice_split}
use Rattle.std.specs.Option.{option_map_or}
use Rattle.fdr.specs.Tasks.{FiniteDomainTask}
use Rattle.validate.specs.Steps.{Step}
use Rattle.validate.specs.PlanWords.{IsPlanStep}

-- the words of a text that are separated by single blanks
abbrev pub words_of : List ℕ → List (List ℕ)
words_of text = slice_split (λ b. b == 32) text

-- the step whose first word names the schema, and whose others name the objects
abbrev pub step_of_words : List (List ℕ) → Step
step_of_words [] = record { name = []; arguments = [] }
step_of_words (w ∷ ws) = record { name = w; arguments = ws }

-- each operator's name spells a step of plan words
abbrev pub HasStepNames : FiniteDomainTask → Type 0
HasStepNames task = All (λ op. IsPlanStep (step_of_words (words_of op.name))) task.operators

-- the step that the name of operator `o` spells
abbrev pub operator_step : FiniteDomainTask → ℕ → Step
operator_step task o = step_of_words (words_of (option_map_or (λ op. op.name) (slice_get task.operators o) []))
