-- Classes of the values of a variable that the goal names and that has more values than a table may have abstract
-- states (Hernádvölgyi and Holte 2000).
use Rattle.std.specs.Prelude.{◌≡◌, ℕ, ◌-◌, ◌<◌, ◌⊎◌, ◌↔◌, Bool, true, false, ◌==◌, ◌||◌, nat_lt, min, if◌then◌else◌, List, length, slice_index}
use Rattle.abstraction_domain.specs.Rows.{are_numbered}

-- how many of the values below this one are not the goal's
abbrev pub others_below : ℕ → ℕ → ℕ
others_below goal value = if nat_lt goal value then value - 1 else value

-- the value is the goal's, or one of the first limit - 2 others
abbrev pub is_single : ℕ → ℕ → ℕ → Bool
is_single limit goal value = value == goal || nat_lt (others_below goal value) (limit - 2)

-- the goal's value and the first limit - 2 others have classes of their own, and all the rest share one; the classes
-- are numbered in the order of their first occurrences in the row
pub record AreGoalClasses (limit goal range : ℕ) (classes : List ℕ) : Type 0 where
  pub as_long : length classes ≡ range
  pub shared : (v w : ℕ) → v < range → w < range → (slice_index classes v ≡ slice_index classes w)
      ↔ ((v ≡ w) ⊎ ((is_single limit goal v ≡ false) × (is_single limit goal w ≡ false)))
  pub numbered : are_numbered classes ≡ true

-- the class of a value: up to the last value with a class of its own it is the value, and the goal's value has the last
-- class if it is after these
abbrev pub goal_class : ℕ → ℕ → ℕ → ℕ
goal_class limit goal value =
    if nat_lt goal (limit - 1) then min value (limit - 1)
    else if value == goal then limit - 1
    else min value (limit - 2)
