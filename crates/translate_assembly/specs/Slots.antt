-- Slots: the variable that an atom is in, and its value there.
use Rattle.std.specs.Prelude.{ℕ, ◌+◌, Bool, if◌then◌else◌, List, [], ◌∷◌, length, map, Option, Some, None, option_and_then, slice_index_or, slice_set, fold, position}
use Rattle.std.specs.Option.{option_or}
use Rattle.pddl_task.specs.Atoms.{Atom, same_atom}
use Rattle.translate_theory.specs.Translations.{Variable}
use Rattle.translate_assembly.specs.declared.slot.Slot.{Slot}

-- the slot of each atom that has one
abbrev pub Lookup : Type 0
Lookup = Atom → Option Slot

-- the slot of the first element that passes the test, in the variable number `variable` of `count` atoms, whose values
-- are counted from `value`
abbrev pub first_slot : {X : Type 0} → (X → Bool) → ℕ → ℕ → ℕ → List X → Option Slot
first_slot test variable count value [] = None
first_slot test variable count value (x ∷ xs) =
    if test x then Some (record { variable = variable; value = value; count = count }) else first_slot test variable count (value + 1) xs

-- the slot of the first element that passes the test in the variables, which are counted from `variable`
abbrev pub slots_from : {X : Type 0} → (X → Bool) → ℕ → List (List X) → Option Slot
slots_from test variable [] = None
slots_from test variable (xs ∷ rest) =
    option_or (first_slot test variable (length xs) 0 xs) (slots_from test (variable + 1) rest)

-- the slot of an atom, if it is in one of the variables
abbrev pub slot_of : List Variable → Lookup
slot_of variables p = slots_from (same_atom p) 0 (map (λ v. v.atoms) variables)

-- slots by the indices of atoms
pub record SlotTable : Type 0 where
  pub atoms : List Atom
  pub slots : List (Option Slot)

-- the slot at the index of the atom
abbrev pub look_up : SlotTable → Lookup
look_up table p = option_and_then (λ k. slice_index_or table.slots k None) (position (same_atom p) table.atoms)

-- the values after the variable of the slot is set to the value of the slot
abbrev pub with_slot : List ℕ → Option Slot → List ℕ
with_slot values None = values
with_slot values (Some s) = slice_set values s.variable s.value

-- the values after these atoms have been set to true
abbrev pub values_of : Lookup → List ℕ → List Atom → List ℕ
values_of slots values atoms = fold (λ vs p. with_slot vs (slots p)) values atoms
