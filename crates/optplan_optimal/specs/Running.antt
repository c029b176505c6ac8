-- The judgement of whether a plan is optimal: the reply to the four texts, the arguments that request it, and what the
-- command does.
use Rattle.std.specs.Prelude.{◌≡◌, ℕ, Bool, true, List, [], ◌∷◌, ◌++◌, codes}
use Rattle.optplan_device.specs.Events.{Event, HasRead}
use Rattle.optplan_explain.specs.Explanations.{IsExplained}
use Rattle.optplan_explain.specs.Files.{ReadFiles, task_files, with_cert, with_plan}
use Rattle.optplan_plan_texts.specs.Plain.{plain}
use Rattle.optplan_replies.specs.declared.fault.Fault.{Fault}
use Rattle.optplan_replies.specs.declared.fault.Fault.TheVariants as reported
use Rattle.optplan_replies.specs.declared.status.Status.{Status}
use Rattle.optplan_replies.specs.Reports.{IsTaskReport}
use Rattle.optplan_replies.specs.Runs.{is_operand, Follows}
use Rattle.optplan_optimal.specs.declared.fault.OptimalityFault.TheVariants.{Plan, Cert, GroundLimit, Limit}
use Rattle.optplan_optimal.specs.declared.verdict.OptimalityVerdict.{OptimalityVerdict}
use Rattle.optplan_optimal.specs.Lines.{verdict_text}
use Rattle.optplan_optimal.specs.Statuses.{verdict_status}
use Rattle.optplan_optimal.specs.Answers.{IsAnswer, IsRefusal}

-- the line and the status are those of the correct verdict for the texts
pub record IsOptimalityReply (domain problem plan cert line : List ℕ) (status : Status) : Type 0 where
  pub verdict : OptimalityVerdict
  pub holds : IsAnswer domain problem plan cert verdict
  pub line_is : line ≡ verdict_text verdict ++ codes "\n"
  pub status_is : status ≡ verdict_status verdict

-- one of the texts is refused, with this fault, or a limit is exceeded
abbrev pub IsOptimalityReport : List ℕ → List ℕ → List ℕ → List ℕ → Fault → Type 0
IsOptimalityReport domain problem plan cert reported.OutOfMemory = Unit {0}
IsOptimalityReport domain problem plan cert (reported.CannotRead file) = ⊥
IsOptimalityReport domain problem plan cert (reported.CannotWrite file) = ⊥
IsOptimalityReport domain problem plan cert (reported.Task e word) = IsTaskReport domain problem (reported.Task e word)
IsOptimalityReport domain problem plan cert (reported.Plan e) = IsRefusal domain problem plan cert (Plan e)
IsOptimalityReport domain problem plan cert (reported.Sas e) = ⊥
IsOptimalityReport domain problem plan cert (reported.Cert e) = IsRefusal domain problem plan cert (Cert e)
IsOptimalityReport domain problem plan cert reported.GroundLimit = IsRefusal domain problem plan cert GroundLimit
IsOptimalityReport domain problem plan cert (reported.TaskTooLarge table) = IsRefusal domain problem plan cert (Limit table)
IsOptimalityReport domain problem plan cert reported.TotalTooLarge = ⊥

-- the arguments request it: the program's name, `optimal`, and four files
pub record AskForOptimality (words : List (List ℕ)) (domain problem plan cert : List ℕ) : Type 0 where
  pub program : List ℕ
  pub are : words ≡ program ∷ codes "optimal" ∷ domain ∷ problem ∷ plan ∷ cert ∷ []
  pub domain_is : is_operand domain ≡ true
  pub problem_is : is_operand problem ≡ true
  pub plan_is : is_operand plan ≡ true
  pub cert_is : is_operand cert ≡ true

-- four files were read
abbrev pub reads : List ℕ → List ℕ → List ℕ → List ℕ → List ℕ → List ℕ → List ℕ → List ℕ → List Event
reads domain d problem p plan l cert c = HasRead domain d ∷ HasRead problem p ∷ HasRead plan l ∷ HasRead cert c ∷ []

-- the four files that a fault may name
abbrev pub files : List ℕ → List ℕ → List ℕ → List ℕ → List ℕ → List ℕ → List ℕ → List ℕ → ReadFiles
files domain d problem p plan l cert c = with_cert (with_plan (task_files domain d problem p) plan l) cert c

-- the four files are read, in this order; then the verdict's line is printed, or one of the texts is refused, and the
-- fault explained if that is requested. The plan may be as other tools write it: it is judged in its plain form, and
-- shown as it is
pub record JudgesOptimality (old new : List Event) (domain problem plan cert : List ℕ) (explains : Bool) (status : Status) : Type 0 where
  pub domain_text : List ℕ
  pub problem_text : List ℕ
  pub plan_text : List ℕ
  pub cert_text : List ℕ
  pub later : List Event
  pub events : new ≡ old ++ (reads domain domain_text problem problem_text plan plan_text cert cert_text ++ later)
  pub follows : Follows (IsOptimalityReply domain_text problem_text (plain plan_text) cert_text)
      (IsOptimalityReport domain_text problem_text (plain plan_text) cert_text)
      (IsExplained explains (files domain domain_text problem problem_text plan plan_text cert cert_text)) later status
