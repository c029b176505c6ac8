-- The changes that an operator makes to the values at the digits of an abstract state.
use Rattle.std.specs.Prelude.{◌≡◌, ℕ, ◌+◌, ◌*◌, ◌/◌, ◌%◌, ◌^◌, ◌<◌, Bool, true, false, ◌==◌, ◌&&◌, if◌then◌else◌, List, [], ◌∷◌, ◌++◌, fold, Option, Some, None, option_map}
use Rattle.std.specs.List.{list_any}
use Rattle.fdr.specs.Tasks.{Operator}
use Rattle.abstraction.specs.declared.digit.Digit.{Digit}
use Rattle.abstraction.specs.Digits.{value_of, IsDigitBelow}
use Rattle.abstraction.specs.Facts.{value_in}
use Rattle.abstraction_groups.specs.declared.change.Change.{Change}
use Rattle.abstraction_groups.specs.declared.change.Change.TheVariants.{Kept, Required, Moved, Assigned}
use Rattle.abstraction_groups.specs.declared.change.DigitChange.{DigitChange}

-- ---- one value

-- the change of a value by the condition and the effect on it, if there are any
abbrev pub change_by : Option ℕ → Option ℕ → Change
change_by None None = Kept
change_by (Some c) None = Required c
change_by (Some c) (Some e) = Moved c e
change_by None (Some e) = Assigned e

abbrev pub change_of : Operator → ℕ → Change
change_of op v = change_by (value_in op.precondition v) (value_in op.effect v)

-- the change turns the first value into the second
abbrev pub LeadsAt : Change → ℕ → ℕ → Type 0
LeadsAt Kept x y = x ≡ y
LeadsAt (Required c) x y = (x ≡ c) × (y ≡ c)
LeadsAt (Moved from to) x y = (x ≡ from) × (y ≡ to)
LeadsAt (Assigned e) x y = y ≡ e

-- the change of one of several values, written in one way: a value that is moved to itself is required, and a value of
-- which there are no two is unchanged
abbrev pub plain_at : Change → Change
plain_at Kept = Kept
plain_at (Required c) = Required c
plain_at (Moved from to) = if from == to then Required from else Moved from to
plain_at (Assigned e) = Assigned e

abbrev pub plain : ℕ → Change → Change
plain range c = if range == 1 then Kept else plain_at c

-- whether a plain change turns some value into a different one
abbrev pub moves_at : Change → Bool
moves_at Kept = false
moves_at (Required c) = false
moves_at (Moved from to) = true
moves_at (Assigned e) = true

-- whether the change allows each value before
abbrev pub is_free : Change → Bool
is_free Kept = true
is_free (Required c) = false
is_free (Moved from to) = false
is_free (Assigned e) = true

-- whether there is an effect alone, so that the variable may have any value before, whatever it has after
abbrev pub is_assigned : Change → Bool
is_assigned Kept = false
is_assigned (Required c) = false
is_assigned (Moved from to) = false
is_assigned (Assigned e) = true

-- the change with a condition or an effect on the value, if there is none yet
abbrev pub with_condition : Change → ℕ → Change
with_condition Kept x = Required x
with_condition (Required c) x = Required c
with_condition (Moved from to) x = Moved from to
with_condition (Assigned e) x = Assigned e

abbrev pub with_effect : Change → ℕ → Change
with_effect Kept x = Assigned x
with_effect (Required c) x = Moved c x
with_effect (Moved from to) x = Moved from to
with_effect (Assigned e) x = Assigned e

-- the number of values before, if there are `range` values
abbrev pub choices_at : ℕ → Change → ℕ
choices_at range c = if is_free c then range else 1

-- the least value before, and the value after it
abbrev pub least_before : Change → ℕ
least_before Kept = 0
least_before (Required c) = c
least_before (Moved from to) = from
least_before (Assigned e) = 0

abbrev pub least_after : Change → ℕ
least_after Kept = 0
least_after (Required c) = c
least_after (Moved from to) = to
least_after (Assigned e) = e

-- the value after a value, if the change applies to it
abbrev pub value_after : Change → ℕ → Option ℕ
value_after Kept x = Some x
value_after (Required c) x = if x == c then Some x else None
value_after (Moved from to) x = if x == from then Some to else None
value_after (Assigned e) x = Some e

-- whether it is the same change
abbrev pub same_at : Change → Change → Bool
same_at Kept Kept = true
same_at Kept (Required d) = false
same_at Kept (Moved from to) = false
same_at Kept (Assigned e) = false
same_at (Required c) Kept = false
same_at (Required c) (Required d) = c == d
same_at (Required c) (Moved from to) = false
same_at (Required c) (Assigned e) = false
same_at (Moved f t) Kept = false
same_at (Moved f t) (Required d) = false
same_at (Moved f t) (Moved from to) = (f == from) && (t == to)
same_at (Moved f t) (Assigned e) = false
same_at (Assigned a) Kept = false
same_at (Assigned a) (Required d) = false
same_at (Assigned a) (Moved from to) = false
same_at (Assigned a) (Assigned e) = a == e

-- ---- the values of an abstract state

-- the changes with the digits at which they are made
abbrev pub at_digits : List Digit → List Change → List DigitChange
at_digits [] cs = []
at_digits (d ∷ ds) [] = []
at_digits (d ∷ ds) (c ∷ cs) = record { digit = d; change = c } ∷ at_digits ds cs

-- the changes written in one way, each for the number of values at its digit
abbrev pub plain_all : List Digit → List Change → List Change
plain_all [] cs = []
plain_all (d ∷ ds) [] = []
plain_all (d ∷ ds) (c ∷ cs) = plain d.range c ∷ plain_all ds cs

-- each change turns the value at its digit in number `i`, whose lowest digit is that of the first change, into the
-- value of abstract state `j` at its digit
abbrev pub LeadsBy : List DigitChange → ℕ → ℕ → Type 0
LeadsBy [] i j = i ≡ 0
LeadsBy (c ∷ cs) i j = LeadsAt c.change (i % c.digit.range) (value_of c.digit j) × LeadsBy cs (i / c.digit.range) j

-- whether some change turns some value into a different one
abbrev pub moves : List Change → Bool
moves cs = list_any moves_at cs

-- whether the changes are the same
abbrev pub same : List Change → List Change → Bool
same [] [] = true
same [] (d ∷ ds) = false
same (c ∷ cs) [] = false
same (c ∷ cs) (d ∷ ds) = same_at c d && same cs ds

-- the number of pairs of abstract states of which the changes turn the first into the second: the product of the ranges
-- of the digits with any value before
abbrev pub pair_count : List DigitChange → ℕ
pair_count [] = 1
pair_count (c ∷ cs) = choices_at c.digit.range c.change * pair_count cs

-- the values of the precondition and of the effect are below the range
abbrev pub FitsIn : ℕ → Change → Type 0
FitsIn r Kept = Unit {0}
FitsIn r (Required c) = c < r
FitsIn r (Moved from to) = (from < r) × (to < r)
FitsIn r (Assigned e) = e < r

pub record IsFit (c : DigitChange) : Type 0 where
  pub digit : IsDigitBelow (2 ^ 24) c.digit
  pub change : FitsIn c.digit.range c.change

-- the product of the ranges
abbrev pub size_by : List DigitChange → ℕ
size_by [] = 1
size_by (c ∷ cs) = c.digit.range * size_by cs

-- ---- groups of operators with the same changes

-- the index of the changes among the rows, if they are there
abbrev pub row_of : List (List Change) → List Change → Option ℕ
row_of [] cs = None
row_of (r ∷ rows) cs = if same cs r then Some 0 else option_map (λ g. g + 1) (row_of rows cs)

-- appends the changes, unless they are there already
abbrev pub with_row : List (List Change) → List Change → List (List Change)
with_row rows cs = if list_any (same cs) rows then rows else rows ++ cs ∷ []

-- the same, unless they move nothing
abbrev pub with_changes : List (List Change) → List Change → List (List Change)
with_changes rows cs = if moves cs then with_row rows cs else rows

-- the changes that move something, each once, in the order of their first occurrences
abbrev pub distinct_moves : List (List Change) → List (List Change)
distinct_moves all = fold with_changes [] all
