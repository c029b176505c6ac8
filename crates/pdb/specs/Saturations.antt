-- The decreases of values over the transitions of classes of operators.
use Rattle.std.specs.Prelude.{◌≡◌, ℕ, ◌<◌, ◌≤◌, ◌⊎◌, List, Some, IfSome, slice_index}
use Rattle.cost.specs.Distances.{Distance, Finite, ◌≤ᵈ◌, ◌+ᵈ◌}
use Rattle.abstraction.specs.Abstractions.{Abstraction}
use Rattle.pdb_walks.specs.Walks.{fall, value_in}
use Rattle.abstraction_groups.specs.Entrances.{LeadsTo, Classes}

-- a transition lowers the value by at most the operator's share; of abstract goals nothing is required
abbrev pub AreConsistent : Abstraction → (ℕ → ℕ) → List Distance → Type 0
AreConsistent a share values = (i o : ℕ) → i < a.size
    → IfSome (a.transition i o) (λ j. value_in values i ≤ᵈ Finite (share o) +ᵈ value_in values j)

-- the number is 0, or the decrease over some transition of an operator of the class
abbrev pub IsFallOf : Abstraction → Classes → (ℕ → Distance) → ℕ → ℕ → Type 0
IsFallOf a classes value c n =
    (n ≡ 0) ⊎ ((o i j : ℕ) × (classes.class o ≡ Some c) × (j < a.size) × LeadsTo a o i j × (fall (value i) (value j) ≡ n))

abbrev pub AreFalls : Abstraction → Classes → (ℕ → Distance) → List ℕ → Type 0
AreFalls a classes value numbers = (c : ℕ) → IsFallOf a classes value c (slice_index numbers c)

-- no decrease over a transition into the state is greater than the number of the operator's class
abbrev pub IsCoveredAt : Abstraction → Classes → (ℕ → Distance) → ℕ → List ℕ → Type 0
IsCoveredAt a classes value j numbers =
    (o i c : ℕ) → classes.class o ≡ Some c → LeadsTo a o i j → fall (value i) (value j) ≤ slice_index numbers c

-- no decrease over a transition is greater than the number of the operator's class
abbrev pub AreWithin : Abstraction → Classes → (ℕ → Distance) → List ℕ → Type 0
AreWithin a classes value numbers = (j : ℕ) → j < a.size → IsCoveredAt a classes value j numbers

-- the numbers of the first n classes are at least those of `least`
abbrev pub AreFull : ℕ → List ℕ → List ℕ → Type 0
AreFull n least numbers = (c : ℕ) → c < n → slice_index least c ≤ slice_index numbers c
