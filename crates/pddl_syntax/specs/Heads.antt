-- Declared predicates and functions: a name and a number of parameters.
use Rattle.std.specs.Prelude.{ℕ, ◌++◌, List, [], ◌∷◌, Option, slice_get, option_and_then, if◌then◌else◌}
use Rattle.pddl_names.specs.Names.{place_of, is_there, with_name}

-- the names in the order of their first declarations, and the number of parameters of each in that declaration
pub record Heads : Type 0 where
  pub names : List (List ℕ)
  pub arities : List ℕ

abbrev pub no_heads : Heads
no_heads = record { names = []; arities = [] }

-- the number of parameters of the head with this name, if it is declared
abbrev pub arity_of : Heads → List ℕ → Option ℕ
arity_of heads t = option_and_then (slice_get heads.arities) (place_of heads.names t)

-- the heads with one more, unless one with this name is declared
abbrev pub with_head : Heads → List ℕ → ℕ → Heads
with_head heads t arity =
    if is_there heads.names t then heads
    else record { names = with_name heads.names t; arities = heads.arities ++ arity ∷ [] }
