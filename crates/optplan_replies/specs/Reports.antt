-- Reports of refused texts of a planning task.
use Rattle.std.specs.Prelude.{◌≡◌, ◌≢◌, ℕ, List, string_bytes}
use Rattle.std.specs.Option.{option_map}
use Rattle.pddl.specs.Texts.{IsTaskRefusal}
use Rattle.pddl.specs.declared.fault.PddlFault.TheVariants as task_fault
use Rattle.optplan_replies.specs.Words.{word_of_fault}
use Rattle.optplan_replies.specs.declared.fault.Fault.{Fault}
use Rattle.optplan_replies.specs.declared.fault.Fault.TheVariants.{OutOfMemory, CannotRead, CannotWrite, Task, Plan, Sas, Cert, GroundLimit, TaskTooLarge, TotalTooLarge}

-- the texts of a domain and a problem are refused for their first fault, with the word that the fault prints, or
-- allocation failed
abbrev pub IsTaskReport : List ℕ → List ℕ → Fault → Type 0
IsTaskReport domain problem OutOfMemory = Unit {0}
IsTaskReport domain problem (CannotRead file) = ⊥
IsTaskReport domain problem (CannotWrite file) = ⊥
IsTaskReport domain problem (Task e word) = (e ≢ task_fault.OutOfMemory) × IsTaskRefusal domain problem e × (option_map string_bytes word ≡ word_of_fault domain problem e)
IsTaskReport domain problem (Plan e) = ⊥
IsTaskReport domain problem (Sas e) = ⊥
IsTaskReport domain problem (Cert e) = ⊥
IsTaskReport domain problem GroundLimit = ⊥
IsTaskReport domain problem (TaskTooLarge table) = ⊥
IsTaskReport domain problem TotalTooLarge = ⊥
