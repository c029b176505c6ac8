-- The validation of a plan: the arguments that request it, and what the command does.
use Rattle.std.specs.Prelude.{◌≡◌, ℕ, Bool, true, List, [], ◌∷◌, ◌++◌, codes}
use Rattle.optplan_device.specs.Events.{Event, HasRead}
use Rattle.optplan_explain.specs.Explanations.{IsExplained}
use Rattle.optplan_explain.specs.Files.{ReadFiles, task_files, with_plan}
use Rattle.optplan_replies.specs.declared.status.Status.{Status}
use Rattle.optplan_replies.specs.Runs.{is_operand, Follows}
use Rattle.optplan_verdicts.specs.Answers.{IsAnswer, IsRefusal}

-- the arguments request a plan's validation: the program's name, `validate`, and three files
pub record AskForValidation (words : List (List ℕ)) (domain problem plan : List ℕ) : Type 0 where
  pub program : List ℕ
  pub are : words ≡ program ∷ codes "validate" ∷ domain ∷ problem ∷ plan ∷ []
  pub domain_is : is_operand domain ≡ true
  pub problem_is : is_operand problem ≡ true
  pub plan_is : is_operand plan ≡ true

-- three files were read
abbrev pub reads : List ℕ → List ℕ → List ℕ → List ℕ → List ℕ → List ℕ → List Event
reads domain d problem p plan l = HasRead domain d ∷ HasRead problem p ∷ HasRead plan l ∷ []

-- the three files that a fault may name
abbrev pub files : List ℕ → List ℕ → List ℕ → List ℕ → List ℕ → List ℕ → ReadFiles
files domain d problem p plan l = with_plan (task_files domain d problem p) plan l

-- the three files are read, in this order; then the verdict's line is printed, or one of the texts is refused, and the
-- fault explained if that is requested
pub record Validates (old new : List Event) (domain problem plan : List ℕ) (explains : Bool) (status : Status) : Type 0 where
  pub domain_text : List ℕ
  pub problem_text : List ℕ
  pub plan_text : List ℕ
  pub later : List Event
  pub events : new ≡ old ++ (reads domain domain_text problem problem_text plan plan_text ++ later)
  pub follows : Follows (IsAnswer domain_text problem_text plan_text) (IsRefusal domain_text problem_text plan_text)
      (IsExplained explains (files domain domain_text problem problem_text plan plan_text)) later status
