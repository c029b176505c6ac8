-- Tasks that mention only their own atoms, and names that are words.
use Rattle.std.specs.Prelude.{◌≢◌, ℕ, ◌≤◌, List, [], All}
use Rattle.pddl_task.specs.Atoms.{Literal}
use Rattle.pddl_task.specs.Planning.{PlanningTask, Vocabulary, Action, IsActionOf, IsAtomOf}

-- the initial atoms, the atoms of the goal and those that actions add are atoms of the task
pub record KnowsItsAtoms (task : PlanningTask) : Type 0 where
  pub initial : All (IsAtomOf task) task.initial
  pub goals : All (λ (l : Literal). IsAtomOf task l.atom) task.goal
  pub added : (a : Action) → IsActionOf task a → All (IsAtomOf task) a.adds

-- a printable byte other than a blank
abbrev pub IsWordByte : ℕ → Type 0
IsWordByte b = (33 ≤ b) × (b ≤ 126)

pub record IsWord (name : List ℕ) : Type 0 where
  pub some : name ≢ []
  pub printed : All IsWordByte name

-- the names of objects, predicates and schemas are words
pub record HasWords (names : Vocabulary) : Type 0 where
  pub of_objects : All IsWord names.objects
  pub of_predicates : All IsWord names.predicates
  pub of_schemas : All IsWord names.schemas
