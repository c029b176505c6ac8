-- Chains of declared supertypes.
use Rattle.std.specs.Prelude.{◌≡◌, ℕ, ◌⊎◌, List, [], ◌∷◌, Some, codes}
use Rattle.pddl_syntax.specs.Typed.{Declared}

-- the declaration states the second type as the supertype of the first
pub record IsDeclaration (type above : List ℕ) (d : Declared) : Type 0 where
  pub name_is : d.name ≡ type
  pub parent_is : d.parent ≡ Some above

-- one of the declarations states the second type as the supertype of the first
abbrev pub IsSupertype : List Declared → List ℕ → List ℕ → Type 0
IsSupertype [] type above = ⊥
IsSupertype (d ∷ ds) type above = IsDeclaration type above d ⊎ IsSupertype ds type above

-- each type of the chain is a declared supertype of the preceding one, the first one of `type`, and the last is
-- `other`; if the chain is empty, `type` is `other`
abbrev pub Leads : List Declared → List ℕ → List (List ℕ) → List ℕ → Type 0
Leads ds type [] other = type ≡ other
Leads ds type (above ∷ chain) other = IsSupertype ds type above × Leads ds above chain other

-- some chain goes from the first type to the second, or the second is `object`, which is above all types
abbrev pub IsBelow : List Declared → List ℕ → List ℕ → Type 0
IsBelow ds type other = (other ≡ codes "object") ⊎ ((chain : List (List ℕ)) × Leads ds type chain other)
