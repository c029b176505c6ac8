-- A state as the set of its true atoms, as the code stores it.
use Rattle.std.specs.Prelude.{◌||◌, ◌&&◌, not}
use Rattle.std.specs.HashSet.{contains as has}
use Rattle.pddl_task.specs.Atoms.{Atom, State, same_atom}
use Rattle.validate.specs.declared.state.AtomSet.{AtomSet}

-- the membership test of the set
abbrev pub holds_in : AtomSet → State
holds_in s p = has same_atom s.atoms p

-- the state with this atom added
abbrev pub added : State → Atom → State
added state q p = same_atom p q || state p

-- the state with this atom removed
abbrev pub without : State → Atom → State
without state q p = state p && not (same_atom p q)
