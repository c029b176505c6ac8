-- Flags by the indices of listed atoms, and what they imply for a variable.
use Rattle.std.specs.Prelude.{◌≡◌, ℕ, Bool, false, ◌&&◌, ◌||◌, not, nat_le, nat_lt, if◌then◌else◌, count_by, List, length, Option, Some, None, slice_get, slice_index_or}
use Rattle.std.specs.List.{list_any}
use Rattle.pddl_task.specs.Atoms.{Atom, State, wants}
use Rattle.mutex_index.specs.Groups.{is_constant, is_excluded, is_usable, is_full}
use Rattle.mutex_index.specs.Places.{Indexed, atoms_at}
use Rattle.translate_theory.specs.Variables.{PlacedVariable}
use Rattle.translate_vars.specs.declared.fault.TranslateFault.{TranslateFault}
use Rattle.translate_vars.specs.declared.fault.TranslateFault.TheVariants.{Misplaced, NotGroup, NotFull}
use Rattle.translate_vars.specs.declared.flags.AtomFlags.{AtomFlags}

-- a flag past the end is not set
abbrev pub flag_at : List Bool → ℕ → Bool
flag_at flags k = slice_index_or flags k false

-- at the index of each atom the flag is the value of the test for it
pub record Tell (atoms : List Atom) (test : State) (flags : List Bool) : Type 0 where
  pub told : (k : ℕ) (p : Atom) → slice_get atoms k ≡ Some p → flag_at flags k ≡ test p

pub record AreFlags (i : Indexed) (flags : AtomFlags) : Type 0 where
  pub constant : Tell i.atoms (is_constant i.task i.actions) flags.constant.items
  pub excluded : Tell i.atoms (is_excluded i.task i.actions) flags.excluded.items
  pub goal : Tell i.atoms (wants i.task.goal) flags.goal.items

-- whether the variable has an atom that it must not have, by the flags, or a single atom and no none value
abbrev pub is_misplaced_at : AtomFlags → List Bool → PlacedVariable → Bool
is_misplaced_at flags taken v =
    (list_any (flag_at flags.constant.items) v.places || list_any (flag_at taken) v.places)
    || (if nat_lt (length v.places) 2 then not v.has_none
    else list_any (flag_at flags.excluded.items) v.places || not (nat_le (count_by (flag_at flags.goal.items) v.places) 1))

-- the fault of the variable with this number, by the flags
abbrev pub fault_at : Indexed → AtomFlags → List Bool → ℕ → PlacedVariable → Option TranslateFault
fault_at i flags taken number v =
    if is_misplaced_at flags taken v then Some (Misplaced number)
    else if nat_lt (length v.places) 2 then None
    else if not (is_usable i.task i.actions (atoms_at i.atoms v.places)) then Some (NotGroup number)
    else if not v.has_none && not (is_full i.task i.actions (atoms_at i.atoms v.places)) then Some (NotFull number)
    else None
