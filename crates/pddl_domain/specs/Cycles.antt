-- Cycles of supertypes; `supertypes` lists the supertype of each type.
use Rattle.std.specs.Prelude.{◌≡◌, ℕ, zero, suc, ◌≤◌, ◌==◌, Bool, List, length, slice_index}
use Rattle.std.specs.List.{list_any, range_with_len}

-- the type reached from a type after this many steps to the supertype
abbrev pub ancestor : List ℕ → ℕ → ℕ → ℕ
ancestor supertypes zero n = n
ancestor supertypes (suc steps) n = ancestor supertypes steps (slice_index supertypes n)

-- one or more steps to the supertype go from the type back to it
abbrev pub LiesOnCycle : List ℕ → ℕ → Type 0
LiesOnCycle supertypes n = (steps : ℕ) × (1 ≤ steps) × (ancestor supertypes steps n ≡ n)

-- the corresponding test, which takes at most as many steps as there are types
abbrev pub lies_on_cycle : List ℕ → ℕ → Bool
lies_on_cycle supertypes n = list_any (λ steps. ancestor supertypes steps n == n) (range_with_len 1 (length supertypes))
