-- Proposed groups: lists of atom indices whose atoms are a usable group.
use Rattle.std.specs.Prelude.{◌≡◌, ℕ, ◌≤◌, Bool, true, false, ◌&&◌, not, if◌then◌else◌, List, [], ◌∷◌, ◌++◌, length, slice_get, All}
use Rattle.std.specs.List.{list_any}
use Rattle.std.specs.List.Sorted.{IsStrictlyIncreasing}
use Rattle.std.specs.Option.{option_map_or}
use Rattle.pddl_task.specs.Atoms.{same_numbers}
use Rattle.mutex_index.specs.Groups.{is_usable, is_constant, is_excluded}
use Rattle.mutex_index.specs.Places.{Indexed, atoms_at}

-- there is an atom at index `place` that is neither constant nor excluded
abbrev pub is_movable : Indexed → ℕ → Bool
is_movable index place =
    option_map_or (λ p. not (is_constant index.task index.actions p) && not (is_excluded index.task index.actions p))
    (slice_get index.atoms place) false

-- two or more indices, strictly increasing, of atoms that are a usable group, none of them constant or excluded
pub record IsProposal (index : Indexed) (places : List ℕ) : Type 0 where
  pub rising : IsStrictlyIncreasing places
  pub several : 2 ≤ length places
  pub movable : All (λ p. is_movable index p ≡ true) places
  pub usable : is_usable index.task index.actions (atoms_at index.atoms places) ≡ true

-- the groups with this one, which is appended if it is not among them
abbrev pub with_group : List (List ℕ) → List ℕ → List (List ℕ)
with_group groups places = if list_any (same_numbers places) groups then groups else groups ++ places ∷ []
