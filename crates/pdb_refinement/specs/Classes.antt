-- Rows of classes, in any order, at most one for each variable. All values of a variable without a row share one
-- class.
use Rattle.std.specs.Prelude.{◌≡◌, ℕ, ◌*◌, ◌<◌, ◌≤◌, ◌==◌, Bool, true, false, if◌then◌else◌, List, [], ◌∷◌, length, take, slice_index, slice_index_or, map, All, Contains}
use Rattle.std.specs.List.{range_with_len}
use Rattle.std.specs.List.Sorted.{IsStrictlyIncreasing}
use Rattle.fdr.specs.Tasks.{FiniteDomainTask, ranges}
use Rattle.abstraction_domain.specs.Rows.{Row, class_count, are_numbered}
use Rattle.abstraction_domain.specs.Domains.{IsFit, variables, no_row}
use Rattle.abstraction_mapping.specs.Mappings.{Mapping, Pattern, Domains}
use Rattle.pdb_refinement.specs.Refinements.{Refines}

-- the class of a value of a variable
abbrev pub class_in : List Row → ℕ → ℕ → ℕ
class_in [] v x = 0
class_in (r ∷ rs) v x = if r.variable == v then slice_index r.classes x else class_in rs v x

-- a row of the task, of a variable that is not banned
pub record IsRowOf (task : FiniteDomainTask) (banned : List Bool) (r : Row) : Type 0 where
  pub fit : IsFit (ranges task) r
  pub numbered : are_numbered r.classes ≡ true
  pub allowed : slice_index_or banned r.variable false ≡ false

-- values of a variable that share a class by `new` share one by `old`
abbrev pub RefineRows : FiniteDomainTask → List Row → List Row → Type 0
RefineRows task old new =
    (v x y : ℕ) → x < slice_index (ranges task) v → y < slice_index (ranges task) v → class_in new v x ≡ class_in new v y → class_in old v x ≡ class_in old v y

-- a first row of the variable is at the index
pub record IsFirstOf (rows : List Row) (v k : ℕ) : Type 0 where
  pub within : k < length rows
  pub here : (slice_index_or rows k no_row).variable ≡ v
  pub before : All (λ (r : Row). r.variable ≡ v → ⊥) (take k rows)

-- the rows with this one instead of the first row of its variable, and last if there is none
abbrev pub with_row : Row → List Row → List Row
with_row r [] = r ∷ []
with_row r (q ∷ qs) = if q.variable == r.variable then r ∷ qs else q ∷ with_row r qs

-- no classes are joined, they are numbered in the order of their first occurrence, and one value has a class of its
-- own
pub record IsSplitAt (old : List ℕ) (value : ℕ) (new : List ℕ) : Type 0 where
  pub refines : Refines old new
  pub numbered : are_numbered new ≡ true
  pub alone : (x : ℕ) → x < length old → slice_index new x ≡ slice_index new value → x ≡ value

-- the number of combinations of the classes of rows
abbrev pub product_of : List Row → ℕ
product_of [] = 1
product_of (r ∷ rs) = class_count r.classes * product_of rs

-- the row of a variable in which each value has a class of its own
abbrev pub whole_row : FiniteDomainTask → ℕ → Row
whole_row task v = record { variable = v; classes = range_with_len 0 (slice_index (ranges task) v) }

-- the rows of a mapping
abbrev pub rows_by : FiniteDomainTask → Mapping → List Row
rows_by task (Pattern pattern) = map (whole_row task) pattern
rows_by task (Domains rows) = rows

-- some of the rows, ordered by variable, with at most `limit` combinations of their classes
pub record AreOrderedWithin (task : FiniteDomainTask) (limit : ℕ) (rows ordered : List Row) : Type 0 where
  pub increasing : IsStrictlyIncreasing (variables ordered)
  pub fit : All (IsFit (ranges task)) ordered
  pub numbered : All (λ (r : Row). are_numbered r.classes ≡ true) ordered
  pub within : product_of ordered ≤ limit
  pub among : All (Contains (variables rows)) (variables ordered)
