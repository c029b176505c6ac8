-- The declarations of a domain that its actions use.
use Rattle.std.specs.Prelude.{ℕ, List}
use Rattle.pddl_syntax.specs.Heads.{Heads}

-- the types with their supertypes, the predicates, the functions and the constants
pub record Declarations : Type 0 where
  pub types : List (List ℕ)
  pub supertypes : List ℕ
  pub predicates : Heads
  pub functions : Heads
  pub objects : List (List ℕ)
