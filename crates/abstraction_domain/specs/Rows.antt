-- Classes of the values of a variable (Hernádvölgyi and Holte 2000; Kreft, Büchner, Sievers and Helmert 2023).
use Rattle.std.specs.Prelude.{ℕ, ◌+◌, ◌<◌, max, ◌⊎◌, Bool, true, ◌&&◌, nat_le, nat_lt, List, [], ◌∷◌, length, map, take, slice_index, Contains}

-- a variable, and the class of each of its values
pub record Row : Type 0 where
  pub variable : ℕ
  pub classes : List ℕ

-- the number of classes: one more than the greatest, and 0 if there is none
abbrev pub class_count : List ℕ → ℕ
class_count [] = 0
class_count (c ∷ cs) = max (c + 1) (class_count cs)

-- whether two values of the variable share a class: there are fewer classes than values
abbrev pub shares_class : List ℕ → Bool
shares_class classes = nat_lt (class_count classes) (length classes)

-- the classes in the rows
abbrev pub classes_in : List Row → List (List ℕ)
classes_in rows = map (λ r. r.classes) rows

-- the least number that is not in the list
pub record IsLeastAbsent (xs : List ℕ) (c : ℕ) : Type 0 where
  pub absent : Contains xs c → ⊥
  pub below : (d : ℕ) → d < c → Contains xs d

-- the class at index `k` occurs earlier, or is the least number that does not
abbrev pub IsNumberedAt : List ℕ → ℕ → Type 0
IsNumberedAt classes k =
    Contains (take k classes) (slice_index classes k) ⊎ IsLeastAbsent (take k classes) (slice_index classes k)

-- the classes are numbered in the order of their first occurrences in the row
abbrev pub AreNumbered : List ℕ → Type 0
AreNumbered classes = (k : ℕ) → k < length classes → IsNumberedAt classes k

-- the corresponding test, if `n` classes occur before these: each class is at most the number of classes that occur
-- before it
abbrev pub numbered_from : ℕ → List ℕ → Bool
numbered_from n [] = true
numbered_from n (c ∷ cs) = nat_le c n && numbered_from (max n (c + 1)) cs

abbrev pub are_numbered : List ℕ → Bool
are_numbered classes = numbered_from 0 classes

-- the first index at which the classes are not numbered in this order
pub record IsFirstMisnumbered (classes : List ℕ) (k : ℕ) : Type 0 where
  pub within : k < length classes
  pub before : (j : ℕ) → j < k → IsNumberedAt classes j
  pub misnumbered : IsNumberedAt classes k → ⊥
