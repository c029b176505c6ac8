-- The transitions of an operator, each with the abstract state that it enters as its key.
use Rattle.std.specs.Prelude.{◌≡◌, ℕ, ◌<◌, ◌↔◌, ◌⊎◌, List, Some, Contains}
use Rattle.keyed_lists.specs.declared.lists.Keyed.{Keyed}
use Rattle.abstraction.specs.Abstractions.{Abstraction}
use Rattle.abstraction_groups.specs.declared.backward.Transition.{Transition}

-- the entry is a transition of the operator from one of the first n abstract states, by this class
abbrev pub IsEntryOf : Abstraction → ℕ → ℕ → ℕ → Keyed Transition → Type 0
IsEntryOf a o c n e = (e.item.class ≡ c) × (e.item.source < n) × (a.transition e.item.source o ≡ Some e.key)

-- exactly the transitions of the operator from the first n abstract states have been appended
abbrev pub AreAppended : Abstraction → ℕ → ℕ → ℕ → List (Keyed Transition) → List (Keyed Transition) → Type 0
AreAppended a o c n old new = (e : Keyed Transition) → Contains new e ↔ (Contains old e ⊎ IsEntryOf a o c n e)
