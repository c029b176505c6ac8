-- Walks in an abstraction, the distances that they define, and saturated cost functions (Seipp, Keller and Helmert
-- 2020).
use Rattle.std.specs.Prelude.{◌≡◌, ℕ, ◌-◌, ◌<◌, ◌≤◌, true, ◌⊎◌, List, [], ◌∷◌, length, Option, Some, option_and_then, IfSome, IsSomeAnd, sum_by, slice_get}
use Rattle.std.specs.Option.{option_map_or}
use Rattle.cost.specs.Distances.{Distance, Finite, Infinite, ◌≤ᵈ◌}
use Rattle.abstraction.specs.Abstractions.{Abstraction, Table}

-- the abstract state after a sequence of operators, if each of them has a transition in turn
abbrev pub walk : Abstraction → ℕ → List ℕ → Option ℕ
walk a i [] = Some i
walk a i (o ∷ os) = option_and_then (λ j. walk a j os) (a.transition i o)

-- the sequence of operators reaches an abstract goal from the abstract state
abbrev pub IsWalkFrom : Abstraction → ℕ → List ℕ → Type 0
IsWalkFrom a i os = IsSomeAnd (walk a i os) (λ j. a.is_goal j ≡ true)

-- some walk from the abstract state has this total of shares; nothing is required of an infinite total
abbrev pub IsTotalFrom : Abstraction → (ℕ → ℕ) → ℕ → Distance → Type 0
IsTotalFrom a share i Infinite = Unit {0}
IsTotalFrom a share i (Finite n) = (os : List ℕ) × IsWalkFrom a i os × (sum_by share os ≡ n)

-- the least total of shares over the walks from the abstract state, and infinite if there is no walk
pub record IsDistanceFrom (a : Abstraction) (share : ℕ → ℕ) (i : ℕ) (d : Distance) : Type 0 where
  pub least : (os : List ℕ) → IsWalkFrom a i os → d ≤ᵈ Finite (sum_by share os)
  pub reached : IsTotalFrom a share i d

-- the values of the table are the distances under these shares
abbrev pub HasDistances : Table → (ℕ → ℕ) → Type 0
HasDistances t share = (i : ℕ) → i < t.abstraction.size → IsDistanceFrom t.abstraction share i (t.value i)

-- the value at index `i`, and infinite past the end
abbrev pub value_in : List Distance → ℕ → Distance
value_in values i = option_map_or (λ d. d) (slice_get values i) Infinite

-- there is one value for each abstract state, and it is the distance under these shares
pub record AreDistances (a : Abstraction) (share : ℕ → ℕ) (values : List Distance) : Type 0 where
  pub as_long : length values ≡ a.size
  pub exact : (i : ℕ) → i < a.size → IsDistanceFrom a share i (value_in values i)

-- the amount by which the second distance is below the first, and 0 if it is not below or one of them is infinite
abbrev pub fall : Distance → Distance → ℕ
fall Infinite e = 0
fall (Finite m) Infinite = 0
fall (Finite m) (Finite n) = m - n

-- the greatest decrease of the value over the operator's transitions, and 0 if it has none
pub record IsGreatestFall (a : Abstraction) (value : ℕ → Distance) (o n : ℕ) : Type 0 where
  pub upper : (i : ℕ) → i < a.size → IfSome (a.transition i o) (λ j. fall (value i) (value j) ≤ n)
  pub reached : (n ≡ 0) ⊎ ((i : ℕ) × (i < a.size) × IsSomeAnd (a.transition i o) (λ j. fall (value i) (value j) ≡ n))

-- the shares are the saturated cost function: each is the greatest decrease of the value over the operator's
-- transitions
abbrev pub IsSaturated : Table → Type 0
IsSaturated t = (o : ℕ) → IsGreatestFall t.abstraction t.value o (t.share o)

-- each table in turn has the distances under the remaining costs, and its saturated shares are subtracted from them
abbrev pub IsPartition : (ℕ → ℕ) → List Table → Type 0
IsPartition left [] = Unit {0}
IsPartition left (t ∷ ts) = HasDistances t left × IsSaturated t × IsPartition (λ o. left o - t.share o) ts
