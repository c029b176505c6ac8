-- The translation of a planning task: the answer for its two texts, the arguments that request it, and what the command
-- does.
use Rattle.std.specs.Prelude.{◌≡◌, ℕ, Bool, true, List, [], ◌∷◌, ◌++◌, length, map, codes}
use Rattle.optplan_device.specs.Events.{Event}
use Rattle.pddl_task.specs.Planning.{PlanningTask}
use Rattle.pddl.specs.Texts.{SpellTask}
use Rattle.translate.specs.Translated.{TranslatedTask, IsTranslation, HasSamePlans, IsUntranslated}
use Rattle.translate.specs.declared.fault.SizeFault.TheVariants as translating
use Rattle.sasfile_writer.specs.Written.{written}
use Rattle.optplan_explain.specs.Explanations.{IsExplained}
use Rattle.optplan_explain.specs.Files.{task_files}
use Rattle.optplan_replies.specs.declared.status.Status.{Status}
use Rattle.optplan_replies.specs.declared.status.Status.TheVariants.{Done}
use Rattle.optplan_replies.specs.Reports.{IsTaskReport}
use Rattle.optplan_replies.specs.Runs.{is_operand, Follows, task_reads}
use Rattle.optplan_replies.specs.declared.fault.Fault.{Fault}
use Rattle.optplan_replies.specs.declared.fault.Fault.TheVariants.{OutOfMemory, CannotRead, CannotWrite, Task, Plan, Sas, Cert, GroundLimit, TaskTooLarge, TotalTooLarge}

-- the texts spell a task, and the text is the written form of a translation of it with the same plans
pub record IsTranslationText (domain problem text : List ℕ) : Type 0 where
  pub task : PlanningTask
  pub spelled : SpellTask domain problem task
  pub translated : TranslatedTask
  pub translation : IsTranslation task translated
  pub same : HasSamePlans task translated
  pub text_is : text ≡ written translated.task (map (λ v. length v.places) translated.variables)

-- one of the texts is refused, with this fault, or a limit is exceeded
abbrev pub IsTranslationRefusal : List ℕ → List ℕ → Fault → Type 0
IsTranslationRefusal domain problem OutOfMemory = Unit {0}
IsTranslationRefusal domain problem (CannotRead file) = ⊥
IsTranslationRefusal domain problem (CannotWrite file) = ⊥
IsTranslationRefusal domain problem (Task e word) = IsTaskReport domain problem (Task e word)
IsTranslationRefusal domain problem (Plan e) = ⊥
IsTranslationRefusal domain problem (Sas e) = ⊥
IsTranslationRefusal domain problem (Cert e) = ⊥
IsTranslationRefusal domain problem GroundLimit = (task : PlanningTask) × SpellTask domain problem task × IsUntranslated task translating.GroundLimit
IsTranslationRefusal domain problem (TaskTooLarge table) =
    (task : PlanningTask) × SpellTask domain problem task × IsUntranslated task (translating.Limit table)
IsTranslationRefusal domain problem TotalTooLarge = ⊥

-- the arguments request a translation: the program's name, `translate`, and two files
pub record AskForTranslation (words : List (List ℕ)) (domain problem : List ℕ) : Type 0 where
  pub program : List ℕ
  pub are : words ≡ program ∷ codes "translate" ∷ domain ∷ problem ∷ []
  pub domain_is : is_operand domain ≡ true
  pub problem_is : is_operand problem ≡ true

-- the text is that of a translation, and the status is `Done`
abbrev pub IsTranslationAnswer : List ℕ → List ℕ → List ℕ → Status → Type 0
IsTranslationAnswer domain problem text status = IsTranslationText domain problem text × (status ≡ Done)

-- the two files are read, in this order; then the text of a translation is printed, or one of the texts is refused, and
-- the fault explained if that is requested
pub record Translates (old new : List Event) (domain problem : List ℕ) (explains : Bool) (status : Status) : Type 0 where
  pub domain_text : List ℕ
  pub problem_text : List ℕ
  pub later : List Event
  pub events : new ≡ old ++ (task_reads domain domain_text problem problem_text ++ later)
  pub follows : Follows (IsTranslationAnswer domain_text problem_text) (IsTranslationRefusal domain_text problem_text)
      (IsExplained explains (task_files domain domain_text problem problem_text)) later status
