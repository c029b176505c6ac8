-- The check of a certificate for a planning task: the answer for the three texts, the arguments that request it, and
-- what the command does.
use Rattle.std.specs.Prelude.{◌≡◌, ℕ, Bool, true, List, [], ◌∷◌, ◌++◌, codes}
use Rattle.optplan_device.specs.Events.{Event}
use Rattle.checker.specs.Judgements.{verdict_text}
use Rattle.checker.specs.Answers as checked
use Rattle.checker.specs.declared.verdict.PlanningVerdict.{PlanningVerdict}
use Rattle.checker.specs.declared.verdict.PlanningVerdict.TheVariants.{Accepted, Rejected}
use Rattle.checker.specs.declared.fault.PlanningCheckFault.TheVariants as check
use Rattle.optplan_explain.specs.Explanations.{IsExplained}
use Rattle.optplan_explain.specs.Files.{ReadFiles, task_files, with_cert}
use Rattle.optplan_replies.specs.declared.status.Status.{Status}
use Rattle.optplan_replies.specs.declared.status.Status.TheVariants as exit
use Rattle.optplan_replies.specs.Reports.{IsTaskReport}
use Rattle.optplan_replies.specs.Runs.{is_operand, Follows}
use Rattle.optplan_verdicts.specs.Validation.{reads}
use Rattle.optplan_replies.specs.declared.fault.Fault.{Fault}
use Rattle.optplan_replies.specs.declared.fault.Fault.TheVariants.{OutOfMemory, CannotRead, CannotWrite, Task, Plan, Sas, Cert, GroundLimit, TaskTooLarge, TotalTooLarge}

-- the exit status of a verdict on a certificate
abbrev pub check_status : PlanningVerdict → Status
check_status (Accepted bound) = exit.Done
check_status (Rejected violation) = exit.Rejected

-- the texts spell a task and a certificate, and the line and the status are those of the verdict on the certificate
pub record IsCheckAnswer (domain problem cert line : List ℕ) (status : Status) : Type 0 where
  pub verdict : PlanningVerdict
  pub holds : checked.IsAnswer domain problem cert verdict
  pub line_is : line ≡ verdict_text verdict ++ codes "\n"
  pub status_is : status ≡ check_status verdict

-- one of the texts is refused, with this fault, or a limit is exceeded
abbrev pub IsCheckRefusal : List ℕ → List ℕ → List ℕ → Fault → Type 0
IsCheckRefusal domain problem cert OutOfMemory = Unit {0}
IsCheckRefusal domain problem cert (CannotRead file) = ⊥
IsCheckRefusal domain problem cert (CannotWrite file) = ⊥
IsCheckRefusal domain problem cert (Task e word) = IsTaskReport domain problem (Task e word)
IsCheckRefusal domain problem cert (Plan e) = ⊥
IsCheckRefusal domain problem cert (Sas e) = ⊥
IsCheckRefusal domain problem cert (Cert e) = checked.IsRefusal domain problem cert (check.Cert e)
IsCheckRefusal domain problem cert GroundLimit = checked.IsRefusal domain problem cert check.GroundLimit
IsCheckRefusal domain problem cert (TaskTooLarge table) = checked.IsRefusal domain problem cert (check.Limit table)
IsCheckRefusal domain problem cert TotalTooLarge = ⊥

-- the arguments request a check: the program's name, `check`, and three files
pub record AskForCheck (words : List (List ℕ)) (domain problem cert : List ℕ) : Type 0 where
  pub program : List ℕ
  pub are : words ≡ program ∷ codes "check" ∷ domain ∷ problem ∷ cert ∷ []
  pub domain_is : is_operand domain ≡ true
  pub problem_is : is_operand problem ≡ true
  pub cert_is : is_operand cert ≡ true

-- the three files that a fault may name
abbrev pub files : List ℕ → List ℕ → List ℕ → List ℕ → List ℕ → List ℕ → ReadFiles
files domain d problem p cert c = with_cert (task_files domain d problem p) cert c

-- the three files are read, in this order; then the verdict's line is printed, or one of the texts is refused, and the
-- fault explained if that is requested
pub record Checks (old new : List Event) (domain problem cert : List ℕ) (explains : Bool) (status : Status) : Type 0 where
  pub domain_text : List ℕ
  pub problem_text : List ℕ
  pub cert_text : List ℕ
  pub later : List Event
  pub events : new ≡ old ++ (reads domain domain_text problem problem_text cert cert_text ++ later)
  pub follows : Follows (IsCheckAnswer domain_text problem_text cert_text) (IsCheckRefusal domain_text problem_text cert_text)
      (IsExplained explains (files domain domain_text problem problem_text cert cert_text)) later status
