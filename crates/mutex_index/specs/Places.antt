-- Atoms by their indices in a list, and the effects of actions as such indices.
use Rattle.std.specs.Prelude.{◌≡◌, ℕ, Bool, ◌&&◌, ◌||◌, ◌==◌, not, if◌then◌else◌, List, None, slice_get, position}
use Rattle.std.specs.List.{list_all, list_any, filter_map}
use Rattle.pddl_task.specs.Atoms.{Atom, Literal, same_atom, contains}
use Rattle.pddl_task.specs.Planning.{PlanningTask, Action}
use Rattle.index_rows.specs.Numbers.{has}

-- a task, atoms, and actions
pub record Indexed : Type 0 where
  pub task : PlanningTask
  pub atoms : List Atom
  pub actions : List Action

-- the atoms at these indices
abbrev pub atoms_at : List Atom → List ℕ → List Atom
atoms_at atoms places = filter_map (slice_get atoms) places

-- the indices of those atoms that are in the list
abbrev pub places_of : List Atom → List Atom → List ℕ
places_of atoms more = filter_map (λ p. position (same_atom p) atoms) more

-- the indices of the atoms of the literals with this sign
abbrev pub literal_places : List Atom → Bool → List Literal → List ℕ
literal_places atoms sign literals =
    filter_map (λ l. if (if l.positive then sign else not sign) then position (same_atom l.atom) atoms else None) literals

-- the indices of those deleted atoms that are not added too
abbrev pub removed_places : List Atom → List Atom → List Atom → List ℕ
removed_places atoms adds deletes =
    filter_map (λ p. if contains adds p then None else position (same_atom p) atoms) deletes

-- no other number of the group than `place` is added
abbrev pub adds_alone : List ℕ → ℕ → List ℕ → Bool
adds_alone group place added = list_all (λ q. q == place || not (has group q)) added

-- one of the positive preconditions `wanted` in the group is `place` or is removed
abbrev pub gives_way : List ℕ → ℕ → List ℕ → List ℕ → Bool
gives_way group place wanted removed = list_any (λ r. has group r && (r == place || has removed r)) wanted

-- one of the numbers is in the group
abbrev pub meets : List ℕ → List ℕ → Bool
meets group numbers = list_any (has group) numbers
