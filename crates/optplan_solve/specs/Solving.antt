-- The command that solves a planning task: what it reads, writes and prints.
use Rattle.std.specs.Prelude.{◌≡◌, ℕ, Bool, List, ◌++◌}
use Rattle.optplan_device.specs.Events.{Event}
use Rattle.optplan_options.specs.Choices.{Choices}
use Rattle.translate.specs.declared.fault.SizeFault.TheVariants as size
use Rattle.optplan_search.specs.declared.fault.SearchFault.{SearchFault}
use Rattle.optplan_pddl.specs.Answers.{IsPlanningAnswer, IsPrepareRefusal, IsSearchRefusal}
use Rattle.optplan_pddl.specs.declared.fault.PrepareFault.TheVariants.{Size}
use Rattle.optplan_explain.specs.Explanations.{IsExplained}
use Rattle.optplan_explain.specs.Files.{task_files}
use Rattle.optplan_replies.specs.declared.status.Status.{Status}
use Rattle.optplan_replies.specs.Reports.{IsTaskReport}
use Rattle.optplan_replies.specs.Runs.{task_reads}
use Rattle.optplan_replies.specs.declared.fault.Fault.{Fault}
use Rattle.optplan_replies.specs.declared.fault.Fault.TheVariants.{OutOfMemory, CannotRead, CannotWrite, Task, Plan, Sas, Cert, GroundLimit, TaskTooLarge, TotalTooLarge}
use Rattle.optplan_solve.specs.Outputs.{OutputFiles, Concludes, fault_of_search}
use Rattle.optplan_solve.specs.Schedules.{EndsBy, IsRefusedBy}
use Rattle.optplan_solve.specs.declared.settings.Schedule.{Schedule}

-- the texts are refused for their first fault; or they spell a task that is too large, or whose translation is; with
-- the program's fault
abbrev pub IsTextRefusal : List ℕ → List ℕ → Fault → Type 0
IsTextRefusal domain problem OutOfMemory = Unit {0}
IsTextRefusal domain problem (CannotRead file) = ⊥
IsTextRefusal domain problem (CannotWrite file) = ⊥
IsTextRefusal domain problem (Task e word) = IsTaskReport domain problem (Task e word)
IsTextRefusal domain problem (Plan e) = ⊥
IsTextRefusal domain problem (Sas e) = ⊥
IsTextRefusal domain problem (Cert e) = ⊥
IsTextRefusal domain problem GroundLimit = IsPrepareRefusal domain problem (Size size.GroundLimit)
IsTextRefusal domain problem (TaskTooLarge table) = IsPrepareRefusal domain problem (Size (size.Limit table))
IsTextRefusal domain problem TotalTooLarge = ⊥

-- the search of what the texts spell is refused, with the program's fault
pub record IsSearchReport (domain problem : List ℕ) (choices : Choices) (schedule : Schedule) (e : Fault) : Type 0 where
  pub fault : SearchFault
  pub refused : IsSearchRefusal domain problem (IsRefusedBy choices schedule) fault
  pub fault_is : e ≡ fault_of_search fault

-- the two files are read, in this order; then one of the texts is refused, and the fault explained if that is
-- requested; or the requested files are created or emptied, and an answer is written and printed, or the search is
-- refused
pub record Solves (old new : List Event) (domain problem : List ℕ) (choices : Choices) (schedule : Schedule) (files : OutputFiles) (explains : Bool) (status : Status) : Type 0 where
  pub domain_text : List ℕ
  pub problem_text : List ℕ
  pub later : List Event
  pub events : new ≡ old ++ (task_reads domain domain_text problem problem_text ++ later)
  pub follows : Concludes (IsTextRefusal domain_text problem_text) (IsExplained explains (task_files domain domain_text problem problem_text))
      (IsPlanningAnswer choices.certificate domain_text problem_text (EndsBy choices schedule))
      (IsSearchReport domain_text problem_text choices schedule) files later status
