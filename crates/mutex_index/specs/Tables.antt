-- The meaning of the tables of an action index: rows of atom indices by action, rows of actions by atom index, and
-- flags by atom index.
use Rattle.std.specs.Prelude.{ℕ, ◌≡◌, ◌<◌, Bool, true, false, ◌&&◌, ◌||◌, ◌==◌, not, nat_le, count_by, List, [], length, map, slice_index_or}
use Rattle.std.specs.List.{list_all, list_any}
use Rattle.pddl_task.specs.Atoms.{Atom}
use Rattle.pddl_task.specs.Planning.{PlanningTask, Action}
use Rattle.ground_atoms.specs.Order.{AreDistinct}
use Rattle.mutex_index.specs.declared.tables.Tables.{Tables}
use Rattle.index_rows.specs.Numbers.{has, row, IsTranspose}
use Rattle.mutex_index.specs.Places.{places_of, literal_places, removed_places, adds_alone, gives_way, meets}

pub record AreTables (task : PlanningTask) (atoms : List Atom) (actions : List Action) (tables : Tables) : Type 0 where
  pub distinct : AreDistinct atoms
  pub wanted : tables.wanted ≡ map (λ a. literal_places atoms true a.precondition) actions
  pub added : tables.added ≡ map (λ a. places_of atoms a.adds) actions
  pub removed : tables.removed ≡ map (λ a. removed_places atoms a.adds a.deletes) actions
  pub adders : IsTranspose (length atoms) tables.added tables.adders
  pub removers : IsTranspose (length atoms) tables.removed tables.removers
  pub initial : (p : ℕ) → p < length atoms → slice_index_or tables.initial.items p false ≡ has (places_of atoms task.initial) p
  pub excluded : (p : ℕ) → p < length atoms → slice_index_or tables.excluded.items p false
      ≡ (list_any (λ a. has (literal_places atoms false a.precondition) p) actions || has (literal_places atoms false task.goal) p)

module _ (tables : Tables) (group : List ℕ) where
  -- the action adds no other atom of the group than `place`, and one of its positive preconditions in the group is
  -- `place` or is removed
  abbrev pub takes_over_at : ℕ → ℕ → Bool
  takes_over_at place k =
      adds_alone group place (row tables.added k) && gives_way group place (row tables.wanted k) (row tables.removed k)

  -- `takes_over_at` holds for each action that adds this atom
  abbrev pub is_taken_over : ℕ → Bool
  is_taken_over place = list_all (takes_over_at place) (row tables.adders place)

  -- the action adds an atom of the group or has one as a positive precondition
  abbrev pub starts_inside_at : ℕ → Bool
  starts_inside_at k = meets group (row tables.added k) || meets group (row tables.wanted k)

  -- each action that removes this atom adds an atom of the group or has one as a positive precondition
  abbrev pub is_left_inside : ℕ → Bool
  is_left_inside place = list_all starts_inside_at (row tables.removers place)

  -- each action that removes this atom adds an atom of the group
  abbrev pub is_refilled : ℕ → Bool
  is_refilled place = list_all (λ k. meets group (row tables.added k)) (row tables.removers place)

  abbrev pub is_usable_by : Bool
  is_usable_by =
      nat_le (count_by (λ p. slice_index_or tables.initial.items p false) group) 1
      && list_all is_taken_over group
      && list_all is_left_inside group

  abbrev pub is_full_by : Bool
  is_full_by = list_any (λ p. slice_index_or tables.initial.items p false) group && list_all is_refilled group

abbrev pub is_constant_by : Tables → ℕ → Bool
is_constant_by tables place =
    slice_index_or tables.initial.items place false
    && (length (row tables.removers place) == 0)
    && not (slice_index_or tables.excluded.items place false)
