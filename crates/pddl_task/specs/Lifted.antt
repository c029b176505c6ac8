-- Lifted atoms: their terms are parameters of a schema, or objects.
use Rattle.std.specs.Prelude.{ℕ, List}
use Rattle.pddl_task.specs.declared.schema.Term.{Term}

-- a predicate or a function by its number, and its terms
pub record Lifted : Type 0 where
  pub predicate : ℕ
  pub terms : List Term
