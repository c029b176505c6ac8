-- The translation of a planning task with the atoms and the variables that it is over, and its relation to the plans of
-- the task.
use Rattle.std.specs.Prelude.{◌≡◌, ◌↔◌, ◌≤◌, ⊤, ℕ, List, length, Some, slice_get, All, Contains, IsTrue}
use Rattle.std.specs.List.{filter_map, AllZip}
use Rattle.std.specs.List.Sorted.{IsNonDecreasingBy}
use Rattle.cost.specs.Distances.{Distance}
use Rattle.fdr.specs.Tasks.{FiniteDomainTask, IsPlan, plan_cost, IsPastLimit, EveryPlanCostsAtLeast, HasNoPlan}
use Rattle.pddl_task.specs.Atoms.{Atom, Literal, contains}
use Rattle.pddl_task.specs.Limits.{max_cost}
use Rattle.pddl_task.specs.Planning.{PlanningTask, Action, IsActionOf, IsAtomOf, has_small_costs}
use Rattle.pddl_task.specs.Plans.{IsValidPlan, total_cost, HasNoValidPlan}
use Rattle.ground_theory.specs.Grounding.{IsLeastClosedSet, actions_over}
use Rattle.ground_atoms.specs.Order.{IsAscending}
use Rattle.ground.specs.Rounds.{IsPastLimits}
use Rattle.mutex_index.specs.Places.{Indexed}
use Rattle.mutex.specs.Candidates.{proposed_groups}
use Rattle.translate_choice.specs.Choices.{least_place}
use Rattle.translate_choice.specs.Greedy.{AreChosen}
use Rattle.translate_theory.specs.Bounds.{ValidPlansCostAtLeast}
use Rattle.translate_theory.specs.Translations.{AreVariables, translation, carried}
use Rattle.translate_theory.specs.Variables.{PlacedVariable, IsPlaced, variables_at}
use Rattle.translate_assembly.specs.Carried.{AreCarriedAt}
use Rattle.translate_vars.specs.Parts.{AreFit}
use Rattle.translate_vars.specs.declared.fault.TranslateFault.{TranslateFault}
use Rattle.translate_vars.specs.declared.fault.TranslateFault.TheVariants as parts
use Rattle.translate_assembly.specs.declared.assembly.AssemblyFault.{AssemblyFault}
use Rattle.translate_assembly.specs.declared.assembly.AssemblyFault.TheVariants as assembly
use Rattle.ground.specs.declared.fault.GroundFault.{GroundFault}
use Rattle.ground.specs.declared.fault.GroundFault.TheVariants as ground
use Rattle.translate.specs.declared.fault.SizeFault.{SizeFault}
use Rattle.translate.specs.declared.fault.SizeFault.TheVariants as size

-- the properties of every task that texts spell: costs are small, and the initial atoms, the atoms of the goal and
-- those that actions add are atoms of the task
pub record IsReadTask (task : PlanningTask) : Type 0 where
  pub small : IsTrue (has_small_costs task)
  pub costs : (a : Action) → IsActionOf task a → a.cost ≤ max_cost
  pub initial : All (IsAtomOf task) task.initial
  pub goals : All (λ (l : Literal). IsAtomOf task l.atom) task.goal
  pub added : (a : Action) → IsActionOf task a → All (IsAtomOf task) a.adds

-- the atoms, the variables over them, the finite-domain task, and for each operator the index of its action
pub record TranslatedTask : Type 0 where
  pub atoms : List Atom
  pub variables : List PlacedVariable
  pub task : FiniteDomainTask
  pub places : List ℕ

-- all ground actions over the atoms, in order
abbrev pub actions_of : PlanningTask → TranslatedTask → List Action
actions_of task t = actions_over task (contains t.atoms)

-- the actions of the operators, in their order
abbrev pub operator_actions : PlanningTask → TranslatedTask → List Action
operator_actions task t = filter_map (slice_get (actions_of task t)) t.places

-- the atoms and variables are fit, the finite-domain task is the translation over them, and each operator has the index
-- of its action
pub record IsTranslation (task : PlanningTask) (t : TranslatedTask) : Type 0 where
  pub placed : All (IsPlaced (length t.atoms)) t.variables
  pub fit : AreFit task t.atoms t.variables
  pub task_is : t.task ≡ translation task (variables_at t.atoms t.variables) (actions_of task t)
  pub carried_at : AreCarriedAt (variables_at t.atoms t.variables) (actions_of task t) t.places
  pub actions_are : operator_actions task t ≡ carried (variables_at t.atoms t.variables) (actions_of task t)

-- the numbers of the operators of the actions of the plan, in order
abbrev pub AreOperatorsOf : PlanningTask → TranslatedTask → List Action → List ℕ → Type 0
AreOperatorsOf task t plan os = AllZip (λ a o. slice_get (operator_actions task t) o ≡ Some a) plan os

-- Every action of a valid plan is over the atoms. A list of actions is a valid plan of some cost exactly if each of
-- them has an operator and the list of these operators is a plan of that cost. The same lower bounds hold.
pub record HasSamePlans (task : PlanningTask) (t : TranslatedTask) : Type 0 where
  pub listed : (plan : List Action) → IsValidPlan task plan → All (Contains (actions_of task t)) plan
  pub plans : (plan : List Action) (cost : ℕ) →
      (IsValidPlan task plan × (total_cost plan ≡ cost))
      ↔ ((os : List ℕ) × AreOperatorsOf task t plan os × IsPlan t.task os × (plan_cost t.task os ≡ cost))
  pub bounds : (bound : Distance) → EveryPlanCostsAtLeast t.task bound ↔ ValidPlansCostAtLeast task bound
  pub none : HasNoPlan t.task ↔ HasNoValidPlan task

-- the translation over these atoms and variables exceeds a limit of finite-domain tasks
abbrev pub IsTooLarge : PlanningTask → List Atom → List PlacedVariable → AssemblyFault → Type 0
IsTooLarge task atoms variables assembly.OutOfMemory = ⊤
IsTooLarge task atoms variables (assembly.Limit l) = IsPastLimit (translation task (variables_at atoms variables) (actions_over task (contains atoms))) l

-- a task, listed atoms, and all actions over them, in order
abbrev pub indexed : PlanningTask → List Atom → Indexed
indexed task atoms = record { task = task; atoms = atoms; actions = actions_over task (contains atoms) }

-- the atoms are the least closed set, in order, and the variables are those that are chosen over them from the proposed
-- groups
pub record AreChosenParts (task : PlanningTask) (atoms : List Atom) (variables : List PlacedVariable) : Type 0 where
  pub least : IsLeastClosedSet task (contains atoms)
  pub ascending : IsAscending atoms
  pub chosen : AreChosen (indexed task atoms) (proposed_groups (indexed task atoms)) variables
  pub fit : AreVariables task atoms (actions_over task (contains atoms)) (variables_at atoms variables)
  pub ordered : IsNonDecreasingBy least_place variables

-- there are too many atoms or actions; or the finite-domain task over the chosen variables exceeds a limit
abbrev pub IsUntranslated : PlanningTask → SizeFault → Type 0
IsUntranslated task size.OutOfMemory = ⊤
IsUntranslated task size.GroundLimit = IsPastLimits task
IsUntranslated task (size.Limit l) =
    (atoms : List Atom) × (variables : List PlacedVariable) × AreChosenParts task atoms variables
    × IsPastLimit (translation task (variables_at atoms variables) (actions_over task (contains atoms))) l

-- a fault of the assembly of listed parts as their fault
abbrev pub parts_fault_of : AssemblyFault → TranslateFault
parts_fault_of assembly.OutOfMemory = parts.OutOfMemory
parts_fault_of (assembly.Limit l) = parts.Limit l

-- faults of grounding and of the assembly of a task as reasons why a task has no translation
abbrev pub fault_of_ground : GroundFault → SizeFault
fault_of_ground ground.OutOfMemory = size.OutOfMemory
fault_of_ground ground.GroundLimit = size.GroundLimit

abbrev pub fault_of_assembly : AssemblyFault → SizeFault
fault_of_assembly assembly.OutOfMemory = size.OutOfMemory
fault_of_assembly (assembly.Limit l) = size.Limit l
