-- What the change of a value says of the abstract states that an operator enters.
use Rattle.std.specs.Prelude.{ℕ, Bool, true, ◌==◌, Option, Some, None}
use Rattle.abstraction.specs.Digits.{value_of}
use Rattle.abstraction_groups.specs.declared.change.Change.{Change}
use Rattle.abstraction_groups.specs.declared.change.Change.TheVariants.{Kept, Required, Moved, Assigned}
use Rattle.abstraction_groups.specs.declared.change.DigitChange.{DigitChange}

-- whether the change results in the value from some value
abbrev pub enters_at : Change → ℕ → Bool
enters_at Kept y = true
enters_at (Required c) y = y == c
enters_at (Moved from to) y = y == to
enters_at (Assigned e) y = y == e

abbrev pub enters_digit : ℕ → DigitChange → Bool
enters_digit j c = enters_at c.change (value_of c.digit j)

-- the value that the variable must have after the change, if there is one
abbrev pub asked : Change → Option ℕ
asked Kept = None
asked (Required c) = Some c
asked (Moved from to) = Some to
asked (Assigned e) = Some e

-- the value that the effect sets, and the one that it replaces, if they are known, otherwise 0
abbrev pub put_at : Change → ℕ
put_at Kept = 0
put_at (Required c) = 0
put_at (Moved from to) = to
put_at (Assigned e) = e

abbrev pub taken_at : Change → ℕ
taken_at Kept = 0
taken_at (Required c) = 0
taken_at (Moved from to) = from
taken_at (Assigned e) = 0
