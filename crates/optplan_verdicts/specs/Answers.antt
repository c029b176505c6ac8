-- The answer for the three texts of a domain, a problem and a plan.
use Rattle.std.specs.Prelude.{◌≡◌, ◌≢◌, ℕ, List, string_bytes}
use Rattle.std.specs.Option.{option_map}
use Rattle.pddl_task.specs.Planning.{PlanningTask}
use Rattle.pddl.specs.Texts.{SpellTask, IsTaskRefusal}
use Rattle.pddl.specs.declared.fault.PddlFault.TheVariants as task_fault
use Rattle.validate.specs.Steps.{Step}
use Rattle.validate.specs.PlanTexts.{SpellsPlan, IsPlanFault}
use Rattle.validate.specs.Verdicts.{IsVerdict}
use Rattle.validate.specs.Written.{verdict_line_of}
use Rattle.validate.specs.declared.verdict.Verdict.{Verdict}
use Rattle.validate.specs.declared.verdict.Verdict.TheVariants.{Valid, NoSuchAction, NotApplicable, GoalOpen}
use Rattle.validate.specs.declared.plan.PlanFault.TheVariants as plan_fault
use Rattle.optplan_replies.specs.declared.status.Status.{Status}
use Rattle.optplan_replies.specs.declared.status.Status.TheVariants as exit
use Rattle.optplan_replies.specs.Words.{word_of_fault}
use Rattle.optplan_replies.specs.declared.fault.Fault.{Fault}
use Rattle.optplan_replies.specs.declared.fault.Fault.TheVariants.{OutOfMemory, CannotRead, CannotWrite, Task, Plan, Sas, Cert, GroundLimit, TaskTooLarge, TotalTooLarge}

-- the exit status of a verdict
abbrev pub verdict_status : Verdict → Status
verdict_status (Valid cost) = exit.Done
verdict_status (NoSuchAction number) = exit.Rejected
verdict_status (NotApplicable number l) = exit.Rejected
verdict_status (GoalOpen l) = exit.Rejected

-- the texts spell a task and a plan, and the line and the status are those of the verdict on the plan
pub record IsAnswer (domain problem plan line : List ℕ) (status : Status) : Type 0 where
  pub task : PlanningTask
  pub spelled : SpellTask domain problem task
  pub steps : List Step
  pub plan_spelled : SpellsPlan plan steps
  pub verdict : Verdict
  pub holds : IsVerdict task steps verdict
  pub line_is : line ≡ verdict_line_of task verdict
  pub status_is : status ≡ verdict_status verdict

-- the texts are refused: the first two for their first fault, with the word that it prints, or the plan for its own if
-- they spell a task
abbrev pub IsRefusal : List ℕ → List ℕ → List ℕ → Fault → Type 0
IsRefusal domain problem plan OutOfMemory = Unit {0}
IsRefusal domain problem plan (CannotRead file) = ⊥
IsRefusal domain problem plan (CannotWrite file) = ⊥
IsRefusal domain problem plan (Task e word) = (e ≢ task_fault.OutOfMemory) × IsTaskRefusal domain problem e × (option_map string_bytes word ≡ word_of_fault domain problem e)
IsRefusal domain problem plan (Plan e) = (e ≢ plan_fault.OutOfMemory) × (task : PlanningTask) × SpellTask domain problem task × IsPlanFault plan e
IsRefusal domain problem plan (Sas e) = ⊥
IsRefusal domain problem plan (Cert e) = ⊥
IsRefusal domain problem plan GroundLimit = ⊥
IsRefusal domain problem plan (TaskTooLarge table) = ⊥
IsRefusal domain problem plan TotalTooLarge = ⊥
