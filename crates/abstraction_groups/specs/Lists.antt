-- The transitions of an abstraction, listed by the abstract state that they enter.
use Rattle.std.specs.Prelude.{◌≡◌, ℕ, ◌<◌, ◌↔◌, Bool, List, [], length, All, Contains, Some, slice_get, slice_index_or}
use Rattle.keyed_lists.specs.declared.lists.Keyed.{Keyed}
use Rattle.abstraction.specs.Abstractions.{Abstraction}
use Rattle.abstraction_groups.specs.declared.backward.Transition.{Transition}
use Rattle.abstraction_groups.specs.Entrances.{Classes, IsEntering, AreEntering}

-- exactly the transitions by classes, each with the abstract state that it enters as its key
pub record AreEntries (a : Abstraction) (classes : Classes) (entries : List (Keyed Transition)) : Type 0 where
  pub keys : All (λ e. e.key < a.size) entries
  pub exactly : (e : Keyed Transition) → e.key < a.size → Contains entries e ↔ IsEntering a classes e.key e.item

-- for each abstract state exactly the transitions into it
pub record AreLists (a : Abstraction) (classes : Classes) (lists : List (List Transition)) : Type 0 where
  pub as_long : length lists ≡ a.size
  pub entering : (j : ℕ) → j < a.size → AreEntering a classes j (slice_index_or lists j [])

-- each element says whether the abstract state with its index is a goal
abbrev pub AreGoals : Abstraction → List Bool → Type 0
AreGoals a goals = (j : ℕ) (b : Bool) → slice_get goals j ≡ Some b → a.is_goal j ≡ b
