-- The texts of plans: of a plan that is valid at a cost, of one that is not valid, and the claim that there is none.
use Rattle.std.specs.Prelude.{◌≡◌, ℕ, ◌⊎◌, List, codes}
use Rattle.pddl_task.specs.Planning.{PlanningTask}
use Rattle.validate.specs.Steps.{Step}
use Rattle.validate.specs.PlanTexts.{SpellsPlan}
use Rattle.validate.specs.Verdicts.{IsVerdict}
use Rattle.validate.specs.Written.{verdict_text}
use Rattle.validate.specs.declared.verdict.Verdict.{Verdict}
use Rattle.validate.specs.declared.verdict.Verdict.TheVariants.{Valid}

-- the text is the line `unsolvable`, with its line feed or without
abbrev pub ClaimsUnsolvable : List ℕ → Type 0
ClaimsUnsolvable text = (text ≡ codes "unsolvable") ⊎ (text ≡ codes "unsolvable\n")

-- the text spells a plan that is valid for the task, at this cost
pub record SpellsValidPlan (task : PlanningTask) (text : List ℕ) (cost : ℕ) : Type 0 where
  pub steps : List Step
  pub spelled : SpellsPlan text steps
  pub valid : IsVerdict task steps (Valid cost)

-- the text spells a plan that is not valid for the task, and the line is the one of the verdict on it
pub record SpellsInvalidPlan (task : PlanningTask) (text line : List ℕ) : Type 0 where
  pub steps : List Step
  pub spelled : SpellsPlan text steps
  pub verdict : Verdict
  pub holds : IsVerdict task steps verdict
  pub not_valid : (cost : ℕ) → verdict ≡ Valid cost → ⊥
  pub line_is : line ≡ verdict_text task.vocabulary verdict
