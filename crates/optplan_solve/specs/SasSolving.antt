-- The command that solves a finite-domain task: what it reads, writes and prints.
use Rattle.std.specs.Prelude.{◌≡◌, ◌≢◌, ℕ, Bool, List, ◌∷◌, ◌++◌, Err}
use Rattle.optplan_device.specs.Events.{Event, HasRead}
use Rattle.optplan_options.specs.Choices.{Choices}
use Rattle.fdr.specs.Tasks.{FiniteDomainTask}
use Rattle.sasfile_reader.specs.SasTexts.{SpellsTask}
use Rattle.sasfile_reader.specs.Reading.{task_in}
use Rattle.sasfile_reader.specs.declared.fault.SasFault.TheVariants as sas_fault
use Rattle.optplan_search.specs.declared.fault.SearchFault.{SearchFault}
use Rattle.optplan_sas.specs.SasAnswers.{IsSasAnswer}
use Rattle.optplan_explain.specs.Explanations.{IsExplained}
use Rattle.optplan_explain.specs.Files.{ReadFiles, no_files, with_sas}
use Rattle.optplan_replies.specs.declared.status.Status.{Status}
use Rattle.optplan_replies.specs.declared.fault.Fault.{Fault}
use Rattle.optplan_replies.specs.declared.fault.Fault.TheVariants.{OutOfMemory, CannotRead, CannotWrite, Task, Plan, Sas, Cert, GroundLimit, TaskTooLarge, TotalTooLarge}
use Rattle.optplan_solve.specs.Outputs.{OutputFiles, Concludes, fault_of_search}
use Rattle.optplan_solve.specs.Schedules.{EndsBy, IsRefusedBy}
use Rattle.optplan_solve.specs.declared.settings.Schedule.{Schedule}

-- the text is refused for its first fault, with the program's fault
abbrev pub IsSasTextRefusal : List ℕ → Fault → Type 0
IsSasTextRefusal sas OutOfMemory = Unit {0}
IsSasTextRefusal sas (CannotRead file) = ⊥
IsSasTextRefusal sas (CannotWrite file) = ⊥
IsSasTextRefusal sas (Task e word) = ⊥
IsSasTextRefusal sas (Plan e) = ⊥
IsSasTextRefusal sas (Sas e) = (e ≢ sas_fault.OutOfMemory) × (task_in sas ≡ Err e)
IsSasTextRefusal sas (Cert e) = ⊥
IsSasTextRefusal sas GroundLimit = ⊥
IsSasTextRefusal sas (TaskTooLarge table) = ⊥
IsSasTextRefusal sas TotalTooLarge = ⊥

-- the search of the task that the text spells is refused, with the program's fault
pub record IsSasSearchReport (sas : List ℕ) (choices : Choices) (schedule : Schedule) (e : Fault) : Type 0 where
  pub task : FiniteDomainTask
  pub spelled : SpellsTask sas task
  pub fault : SearchFault
  pub refused : IsRefusedBy choices schedule task fault
  pub fault_is : e ≡ fault_of_search fault

-- the file that a fault may name
abbrev pub files : List ℕ → List ℕ → ReadFiles
files sas s = with_sas no_files sas s

-- the file is read; then the text is refused, and the fault explained if that is requested; or the requested files are
-- created or emptied, and an answer is written and printed, or the search is refused
pub record SolvesSas (old new : List Event) (sas : List ℕ) (choices : Choices) (schedule : Schedule) (outputs : OutputFiles) (explains : Bool) (status : Status) : Type 0 where
  pub sas_text : List ℕ
  pub later : List Event
  pub events : new ≡ old ++ (HasRead sas sas_text ∷ later)
  pub follows : Concludes (IsSasTextRefusal sas_text) (IsExplained explains (files sas sas_text))
      (IsSasAnswer choices.certificate sas_text (EndsBy choices schedule)) (IsSasSearchReport sas_text choices schedule) outputs later status
