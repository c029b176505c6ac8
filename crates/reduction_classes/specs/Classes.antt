-- Classes of the values of a task: a row for each variable, with the class of each of its values. Values in one class
-- are not distinguished.
use Rattle.std.specs.Prelude.{◌≡◌, ℕ, Bool, ◌||◌, not, nat_lt, if◌then◌else◌, List, [], length, map, filter, Option, Some, None, All, slice_index, slice_index_or}
use Rattle.std.specs.List.{list_any, range_with_len}
use Rattle.abstraction_domain.specs.Rows.{Row, class_count, shares_class, classes_in, AreNumbered}
use Rattle.abstraction_domain.specs.Domains.{variables}

-- the row of a variable
abbrev pub row_of : List (List ℕ) → ℕ → List ℕ
row_of classes v = slice_index_or classes v []

-- the class of a value of a variable
abbrev pub class_of : List (List ℕ) → ℕ → ℕ → ℕ
class_of classes v x = slice_index (row_of classes v) x

-- each variable has a class for each of its values
abbrev pub AreClassesFor : List ℕ → List (List ℕ) → Type 0
AreClassesFor ranges classes = map length classes ≡ ranges

-- whether a variable stays: it has two classes, or no two values of any variable share a class
abbrev pub stays : List (List ℕ) → ℕ → Bool
stays classes v = nat_lt 1 (class_count (row_of classes v)) || not (list_any shares_class classes)

-- those of the first n variables that stay
abbrev pub staying_below : List (List ℕ) → ℕ → List ℕ
staying_below classes n = filter (stays classes) (range_with_len 0 n)

-- the variables that stay, in their order
abbrev pub staying : List (List ℕ) → List ℕ
staying classes = staying_below classes (length classes)

-- the number of a variable among those that stay, and none for a variable that is left out
abbrev pub number_of : List (List ℕ) → ℕ → Option ℕ
number_of classes v = if stays classes v then Some (length (staying_below classes v)) else None

-- the rows are those of the variables in their order, with the variables that stay, and the number of each variable
pub record AreIndexed (rows : List Row) (stay : List ℕ) (by_variable : List (Option ℕ)) : Type 0 where
  pub variables : variables rows ≡ range_with_len 0 (length rows)
  pub staying : stay ≡ staying (classes_in rows)
  pub numbers : by_variable ≡ map (number_of (classes_in rows)) (range_with_len 0 (length rows))
  pub numbered : All AreNumbered (classes_in rows)
