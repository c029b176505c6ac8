-- The names of a task.
use Rattle.std.specs.Prelude.{ℕ, List, All}
use Rattle.pddl_task.specs.Planning.{Vocabulary}

-- the names of objects, predicates and schemas have the property `P`
pub record NamesAre (P : List ℕ → Type 0) (names : Vocabulary) : Type 0 where
  pub of_objects : All P names.objects
  pub of_predicates : All P names.predicates
  pub of_schemas : All P names.schemas
