-- The rules of groups of operators, and the lists by which the groups that enter an abstract state are found.
use Rattle.std.specs.Prelude.{◌≡◌, ℕ, ◌<◌, Bool, true, false, List, [], ◌⊎◌, length, map, Some, IsSomeAnd, All, Contains, slice_get, slice_index, slice_index_or}
use Rattle.std.specs.List.{list_all}
use Rattle.std.specs.Option.{option_map_or}
use Rattle.fdr.specs.Tasks.{ranges}
use Rattle.abstraction.specs.declared.digit.Digit.{Digit}
use Rattle.abstraction.specs.Digits.{value_of, digits_from}
use Rattle.abstraction.specs.Projections.{Projection}
use Rattle.abstraction_groups.specs.declared.change.Change.TheVariants.{Kept}
use Rattle.abstraction_groups.specs.declared.change.DigitChange.{DigitChange}
use Rattle.abstraction_groups.specs.Changes.{at_digits, LeadsBy}
use Rattle.abstraction_groups.specs.FactorLaws.{projection_factors}
use Rattle.abstraction_groups.specs.Factors.{group_changes}
use Rattle.pdb_regression.specs.declared.place.Position.{Position}
use Rattle.pdb_regression.specs.Words.{IsPlain}
use Rattle.pdb_regression.specs.Changes.{enters_digit}

-- ---- the rules

-- the changes of each group of operators, with the digits at which they are made
abbrev pub rows_of : Projection → List (List DigitChange)
rows_of p = map (at_digits (digits_from (ranges p.task) 1 p.pattern)) (group_changes p.task (projection_factors p))

-- whether each change results in the value of the abstract state from some value
abbrev pub enters : List (List DigitChange) → ℕ → ℕ → Bool
enters rules j c = option_map_or (λ changes. list_all (enters_digit j) changes) (slice_get rules c) false

-- the changes of the class turn the first abstract state into the second
abbrev pub LeadsIn : List (List DigitChange) → ℕ → ℕ → ℕ → Type 0
LeadsIn rules c i j = IsSomeAnd (slice_get rules c) (λ changes. LeadsBy changes i j)

-- the default for an index without a change
abbrev pub no_change : DigitChange
no_change = record { digit = record { weight = 0; range = 0 }; change = Kept }

-- ---- the lists of the classes

-- a digit of the pattern, and for each of its values the classes that are listed under it
pub record Place : Type 0 where
  pub position : Position
  pub lists : List (List ℕ)

-- the digit with this number among the pattern's digits
abbrev pub IsPositionIn : List Digit → Position → Type 0
IsPositionIn digits p = slice_get digits p.number ≡ Some p.digit

abbrev pub positions_of : List Place → List Position
positions_of places = map (λ p. p.position) places

-- the list has the value of the abstract state at this digit
pub record IsReadAt (values : List ℕ) (j : ℕ) (p : Position) : Type 0 where
  pub within : p.number < length values
  pub value : slice_index values p.number ≡ value_of p.digit j

-- no classes are listed under values, and abstract states are their own words
pub record IsReadPlainly (digits : List Digit) (places : List Place) : Type 0 where
  pub none : places ≡ []
  pub plain : All IsPlain digits

-- the classes listed under the value of the abstract state at the digit of the `Place`
abbrev pub list_at : ℕ → Place → List ℕ
list_at j p = slice_index_or p.lists (value_of p.position.digit j) []

-- the class has been added under the value
pub record IsAdded (old new : Place) (value o : ℕ) : Type 0 where
  pub position : new.position ≡ old.position
  pub kept : (j p : ℕ) → Contains (list_at j old) p → Contains (list_at j new) p
  pub added : (j : ℕ) → value_of old.position.digit j ≡ value → Contains (list_at j new) o

-- defaults for an index without a `Place`
abbrev pub no_position : Position
no_position = record { number = 0; digit = record { weight = 0; range = 0 } }

abbrev pub no_place : Place
no_place = record { position = no_position; lists = [] }

-- each abstract state that the changes enter has this value at the digit of the `Place` with this index
pub record IsKey (places : List Place) (changes : List DigitChange) (place value : ℕ) : Type 0 where
  pub within : place < length places
  pub below : value < (slice_index_or places place no_place).position.digit.range
  pub entered : (j : ℕ) → list_all (enters_digit j) changes ≡ true →
      value_of (slice_index_or places place no_place).position.digit j ≡ value

-- among the first n of `places`, one lists the class under the value of the abstract state
abbrev pub IsUnder : List Place → ℕ → ℕ → ℕ → Type 0
IsUnder places n j o = (k : ℕ) × (k < n) × Contains (list_at j (slice_index_or places k no_place)) o

-- the class is listed for every abstract state, or under a value of this one
abbrev pub IsListed : List ℕ → List Place → ℕ → ℕ → Type 0
IsListed rest places j o = Contains rest o ⊎ IsUnder places (length places) j o

-- each of the first n classes is listed for each abstract state that it enters
abbrev pub AreIndexed : List ℕ → List Place → List (List DigitChange) → ℕ → Type 0
AreIndexed rest places rows n = (o j : ℕ) → o < n → enters rows j o ≡ true → IsListed rest places j o

-- the changes are at these digits, in their order
abbrev pub IsAlong : List Digit → List DigitChange → Type 0
IsAlong digits changes = map (λ c. c.digit) changes ≡ digits
