-- Mutex groups: lists of atoms of which at most one is true at a time (Helmert 2009, invariants with one or no
-- parameter).
use Rattle.std.specs.Prelude.{Bool, true, ◌&&◌, ◌||◌, not, if◌then◌else◌, List}
use Rattle.std.specs.List.{list_all, list_any}
use Rattle.pddl_task.specs.Atoms.{Atom, State, same_atom, contains, at_most_one, wants, excludes}
use Rattle.pddl_task.specs.Planning.{PlanningTask, Action}

-- the action deletes the atom and does not add it
abbrev pub removes : Action → State
removes a p = contains a.deletes p && not (contains a.adds p)

-- a precondition or the goal contains the negation of the atom
abbrev pub is_excluded : PlanningTask → List Action → State
is_excluded task actions p = list_any (λ a. excludes a.precondition p) actions || excludes task.goal p

-- the atom is initially true, no action removes it, and neither a precondition nor the goal contains its negation
abbrev pub is_constant : PlanningTask → List Action → State
is_constant task actions p =
    contains task.initial p && not (list_any (λ a. removes a p) actions) && not (is_excluded task actions p)

-- for each atom of the group that the action adds, a precondition in the group is that atom or is removed
abbrev pub takes_over : List Atom → Action → Bool
takes_over atoms a =
    list_all (λ p. if contains a.adds p
    then list_any (λ r. wants a.precondition r && (same_atom r p || removes a r)) atoms
    else true) atoms

-- an action that removes an atom of the group and adds none of it has a precondition in the group
abbrev pub starts_inside : List Atom → Action → Bool
starts_inside atoms a =
    if list_any (removes a) atoms
    then list_any (contains a.adds) atoms || list_any (wants a.precondition) atoms
    else true

abbrev pub is_group : PlanningTask → List Action → List Atom → Bool
is_group task actions atoms =
    at_most_one (contains task.initial) atoms
    && list_all (λ a. at_most_one (contains a.adds) atoms && takes_over atoms a) actions

abbrev pub is_usable : PlanningTask → List Action → List Atom → Bool
is_usable task actions atoms = is_group task actions atoms && list_all (starts_inside atoms) actions

-- at least one atom is initially true, and an action that removes one adds one
abbrev pub is_full : PlanningTask → List Action → List Atom → Bool
is_full task actions atoms =
    list_any (contains task.initial) atoms
    && list_all (λ a. if list_any (removes a) atoms then list_any (contains a.adds) atoms else true) actions
