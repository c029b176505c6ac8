-- Distances: natural numbers, and infinity.
use Rattle.std.specs.Prelude.{◌≡◌, ℕ, ◌+◌, ◌<◌, ◌≤◌, Bool, true, false, nat_le, nat_lt, max, min, List, [], ◌∷◌, Option, None, Some, decimal, codes, refl}
use Rattle.std.specs.declared.cmp.Ordering.{Ordering}
use Rattle.std.specs.declared.cmp.Ordering.TheVariants.{Less, Equal, Greater}
use Rattle.std.specs.Ordering.{nat_cmp}
use Rattle.cost.specs.declared.Value.{Value}
use Rattle.cost.specs.declared.Value.TheVariants as value

-- a natural number, or infinity
pub data Distance : Type 0 where
  Finite : ℕ → Distance
  Infinite : Distance

-- the distance that a stored value represents
abbrev pub distance_in : Value → Distance
distance_in (value.Finite n) = Finite n
distance_in value.Infinite = Infinite

-- the stored value that represents a distance
abbrev pub kept : Distance → Value
kept (Finite n) = value.Finite n
kept Infinite = value.Infinite

pub kept-distance_in : (v : Value) → kept (distance_in v) ≡ v
kept-distance_in (value.Finite n) = refl
kept-distance_in value.Infinite = refl

infix 50 ◌≤ᵈ◌
infix 50 ◌<ᵈ◌
infixl 65 ◌+ᵈ◌
-- every distance is at most infinite
abbrev pub ◌≤ᵈ◌ : Distance → Distance → Type 0
d ≤ᵈ Infinite = Unit {0}
Infinite ≤ᵈ Finite n = ⊥
Finite m ≤ᵈ Finite n = m ≤ n

-- whether the first distance is at most the second
abbrev pub is_at_most : Distance → Distance → Bool
is_at_most d Infinite = true
is_at_most Infinite (Finite n) = false
is_at_most (Finite m) (Finite n) = nat_le m n

-- every number is below infinite, and infinite is below nothing
abbrev pub ◌<ᵈ◌ : Distance → Distance → Type 0
Infinite <ᵈ e = ⊥
Finite m <ᵈ Infinite = Unit {0}
Finite m <ᵈ Finite n = m < n

-- whether the first distance is below the second
abbrev pub is_below : Distance → Distance → Bool
is_below Infinite e = false
is_below (Finite m) Infinite = true
is_below (Finite m) (Finite n) = nat_lt m n

-- how two distances compare
abbrev pub distance_cmp : Distance → Distance → Ordering
distance_cmp (Finite m) (Finite n) = nat_cmp m n
distance_cmp (Finite m) Infinite = Less
distance_cmp Infinite (Finite n) = Greater
distance_cmp Infinite Infinite = Equal

-- the sum of two distances, which is infinite if either of them is
abbrev pub ◌+ᵈ◌ : Distance → Distance → Distance
Infinite +ᵈ e = Infinite
Finite m +ᵈ Infinite = Infinite
Finite m +ᵈ Finite n = Finite (m + n)

-- the greater of two distances
abbrev pub larger : Distance → Distance → Distance
larger Infinite e = Infinite
larger (Finite m) Infinite = Infinite
larger (Finite m) (Finite n) = Finite (max m n)

-- the lesser of two distances
abbrev pub lesser : Distance → Distance → Distance
lesser Infinite e = e
lesser (Finite m) Infinite = Finite m
lesser (Finite m) (Finite n) = Finite (min m n)

-- the sum of a list of distances
abbrev pub total : List Distance → Distance
total [] = Finite 0
total (d ∷ ds) = d +ᵈ total ds

-- the greatest of a list of distances; 0 for an empty list
abbrev pub greatest : List Distance → Distance
greatest [] = Finite 0
greatest (d ∷ ds) = larger d (greatest ds)

-- the least of a list of distances; infinite for an empty list
abbrev pub least : List Distance → Distance
least [] = Infinite
least (d ∷ ds) = lesser d (least ds)

-- the distance is a number greater than the limit
abbrev pub IsPast : ℕ → Distance → Type 0
IsPast limit Infinite = ⊥
IsPast limit (Finite n) = limit < n

-- the distance is infinite, or a number that is at most the limit
abbrev pub IsWithin : ℕ → Distance → Type 0
IsWithin limit Infinite = Unit {0}
IsWithin limit (Finite n) = n ≤ limit

-- the distance that an optional number represents: `None` is infinite
abbrev pub distance_of : Option ℕ → Distance
distance_of None = Infinite
distance_of (Some n) = Finite n

-- the text of a distance: a number in decimal, or `inf`
abbrev pub distance_text : Distance → List ℕ
distance_text Infinite = codes "inf"
distance_text (Finite n) = decimal n
