-- The state of the choice of variables, by the indices of the atoms.
use Rattle.std.specs.Prelude.{◌≡◌, ℕ, ◌<◌, Bool, true, false, ◌||◌, ◌&&◌, not, if◌then◌else◌, List, [], ◌∷◌, ◌++◌, length, slice_get, slice_index_or, Some, count_by, All}
use Rattle.std.specs.List.Sorted.{IsStrictlyIncreasing}
use Rattle.std.specs.Option.{option_map_or}
use Rattle.pddl_task.specs.Atoms.{Atom, wants}
use Rattle.mutex_index.specs.Groups.{is_constant}
use Rattle.index_rows.specs.Numbers.{has}
use Rattle.mutex_index.specs.Places.{Indexed}
use Rattle.translate_theory.specs.Translations.{IsVariableOf}
use Rattle.translate_theory.specs.Variables.{PlacedVariable, IsPlaced, variable_at}
use Rattle.mutex.specs.Proposals.{is_movable}
use Rattle.translate_choice.specs.Greedy.{is_in, IsSingle}
use Rattle.translate_choice.specs.declared.choice.Choice.{Choice}

-- the index of the first atom of the variable
abbrev pub least_place : PlacedVariable → ℕ
least_place v = slice_index_or v.places 0 0

-- whether there is an atom at index `place`, and it is constant
abbrev pub is_constant_at : Indexed → ℕ → Bool
is_constant_at index place = option_map_or (is_constant index.task index.actions) (slice_get index.atoms place) false

-- whether index `place` is not taken, and does not have a constant atom
abbrev pub is_left : Indexed → List Bool → ℕ → Bool
is_left index taken place = not (slice_index_or taken place false) && not (is_constant_at index place)

-- the flag at each index is whether the atom is a goal
abbrev pub AreGoals : Indexed → List Bool → Type 0
AreGoals index flags = (p : ℕ) (x : Atom) → slice_get index.atoms p ≡ Some x → slice_index_or flags p false ≡ wants index.task.goal x

-- none of the indices is taken
abbrev pub AreFree : List Bool → List ℕ → Type 0
AreFree taken places = All (λ p. slice_index_or taken p false ≡ false) places

-- strictly increasing indices, none of them taken, of atoms that are neither constant nor excluded
pub record IsRest (index : Indexed) (taken : List Bool) (places : List ℕ) : Type 0 where
  pub rising : IsStrictlyIncreasing places
  pub movable : All (λ p. is_movable index p ≡ true) places
  pub free : AreFree taken places

abbrev pub IsVariableAt : Indexed → PlacedVariable → Type 0
IsVariableAt index v = IsVariableOf index.task index.actions (variable_at index.atoms v)

-- a variable of atoms that are neither taken nor constant
pub record IsNext (index : Indexed) (taken : List Bool) (v : PlacedVariable) : Type 0 where
  pub placed : IsPlaced (length index.atoms) v
  pub fit : IsVariableAt index v
  pub changing : All (λ p. is_constant_at index p ≡ false) v.places
  pub free : AreFree taken v.places

-- each index that is taken is in exactly one variable and its atom is not constant, and each other index is in none
pub record IsChoice (index : Indexed) (choice : Choice) : Type 0 where
  pub size : length choice.taken.items ≡ length index.atoms
  pub placed : All (IsPlaced (length index.atoms)) choice.variables.items
  pub fit : All (IsVariableAt index) choice.variables.items
  pub counted : (p : ℕ) → p < length index.atoms
      → count_by (λ v. has v.places p) choice.variables.items ≡ (if slice_index_or choice.taken.items p false then 1 else 0)
  pub told : (p : ℕ) → slice_index_or choice.taken.items p false ≡ is_in choice.variables.items p
  pub changing : (p : ℕ) → p < length index.atoms → slice_index_or choice.taken.items p false ≡ true → is_constant_at index p ≡ false

-- the variable has been added, and its indices have been taken
pub record AddsVariable (old new : Choice) (v : PlacedVariable) : Type 0 where
  pub variables : new.variables.items ≡ old.variables.items ++ v ∷ []
  pub size : length new.taken.items ≡ length old.taken.items
  pub taken : (p : ℕ) → p < length old.taken.items
      → slice_index_or new.taken.items p false ≡ (slice_index_or old.taken.items p false || has v.places p)

-- each index below `end` is taken or its atom is constant
abbrev pub IsDoneBelow : Indexed → Choice → ℕ → Type 0
IsDoneBelow index choice end =
    (p : ℕ) → p < end → slice_index_or choice.taken.items p false ≡ false → is_constant_at index p ≡ true

-- some variables of one atom have been added
pub record AddsSingles (old new : List PlacedVariable) : Type 0 where
  pub singles : List PlacedVariable
  pub are : new ≡ old ++ singles
  pub single : All IsSingle singles
