-- Passes over the texts of a task. The first pass with a fault decides.
use Rattle.std.specs.Prelude.{◌≡◌, List, [], ◌∷◌, Option, Some, None}
use Rattle.pddl_syntax.specs.declared.fault.Fault.{Fault}
use Rattle.pddl_syntax.specs.declared.fault.PlanningFile.{PlanningFile}
use Rattle.pddl_syntax.specs.Faults.{first_of}
use Rattle.pddl.specs.declared.fault.PddlFault.{PddlFault}
use Rattle.pddl.specs.declared.fault.PddlFault.TheVariants.{OutOfMemory, Tree, Section}

-- the faults of a part of one of the texts
pub record Pass : Type 0 where
  pub file : PlanningFile
  pub faults : List Fault

-- a fault and its text
pub record FileFault : Type 0 where
  pub file : PlanningFile
  pub fault : Fault

abbrev pub in_file : PlanningFile → Option Fault → Option FileFault → Option FileFault
in_file file (Some f) later = Some (record { file = file; fault = f })
in_file file None later = later

-- the first fault of the first pass that has one
unfoldable pub first_pass : List Pass → Option FileFault
first_pass [] = None
first_pass (p ∷ ps) = in_file p.file (first_of None p.faults) (first_pass ps)

-- that allocation failed, or the first fault of a pass over a text
abbrev pub FailsBy : PddlFault → PlanningFile → Option Fault → Type 0
FailsBy OutOfMemory file first = Unit {0}
FailsBy (Tree other e) file first = ⊥
FailsBy (Section other f) file first = (other ≡ file) × (first ≡ Some f)

abbrev pub Fails : PddlFault → Pass → Type 0
Fails e p = FailsBy e p.file (first_of None p.faults)

-- that allocation failed, or the first fault of the first pass that has one
abbrev pub AllFail : PddlFault → List Pass → Type 0
AllFail OutOfMemory ps = Unit {0}
AllFail (Tree file e) ps = ⊥
AllFail (Section file f) ps = first_pass ps ≡ Some (record { file = file; fault = f })
