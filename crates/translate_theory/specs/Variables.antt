-- Variables over a list of atoms, given by the indices of the atoms in the list.
use Rattle.std.specs.Prelude.{ℕ, ◌<◌, Bool, List, length, map, All}
use Rattle.std.specs.List.Sorted.{IsStrictlyIncreasing}
use Rattle.pddl_task.specs.Atoms.{Atom}
use Rattle.mutex_index.specs.Places.{atoms_at}
use Rattle.translate_theory.specs.Translations.{Variable}

-- the indices of the atoms, and whether the variable has the none value
pub record PlacedVariable : Type 0 where
  pub places : List ℕ
  pub has_none : Bool

-- there is at least one index, the indices are strictly increasing, and each is below the number of atoms
pub record IsPlaced (count : ℕ) (v : PlacedVariable) : Type 0 where
  pub some : 0 < length v.places
  pub rising : IsStrictlyIncreasing v.places
  pub within : All (λ p. p < count) v.places

-- the variable with the atoms themselves
abbrev pub variable_at : List Atom → PlacedVariable → Variable
variable_at atoms v = record { atoms = atoms_at atoms v.places; has_none = v.has_none }

abbrev pub variables_at : List Atom → List PlacedVariable → List Variable
variables_at atoms variables = map (variable_at atoms) variables
