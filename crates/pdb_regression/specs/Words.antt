-- The values at the digits of an abstract state, packed into a word, and the test of a class on that word.
use Rattle.std.specs.Prelude.{◌≡◌, ℕ, ◌+◌, ◌-◌, ◌*◌, ◌/◌, ◌%◌, ◌^◌, List, [], ◌∷◌}
use Rattle.std.specs.Int.Count.{count_leading_zeros}
use Rattle.abstraction.specs.declared.digit.Digit.{Digit}
use Rattle.abstraction.specs.Digits.{value_of}
use Rattle.abstraction_groups.specs.declared.change.Change.{Change}
use Rattle.abstraction_groups.specs.declared.change.Change.TheVariants.{Kept, Required, Moved, Assigned}
use Rattle.abstraction_groups.specs.declared.change.DigitChange.{DigitChange}

-- how many bits hold the values below the range
abbrev pub bits_of : ℕ → ℕ
bits_of range = 64 - count_leading_zeros 64 (range - 1)

-- how many numbers these bits can represent
abbrev pub room_of : ℕ → ℕ
room_of range = 2 ^ bits_of range

-- the product of the ranges, and that of the rooms
abbrev pub size_from : List Digit → ℕ
size_from [] = 1
size_from (d ∷ ds) = d.range * size_from ds

abbrev pub rooms_of : List Digit → ℕ
rooms_of [] = 1
rooms_of (d ∷ ds) = room_of d.range * rooms_of ds

-- the word of the values of a number at the digits, the lowest first
abbrev pub word_from : ℕ → List Digit → ℕ
word_from n [] = 0
word_from n (d ∷ ds) = n % d.range + room_of d.range * word_from (n / d.range) ds

-- the word of the values of an abstract state at the digits of changes
abbrev pub word_by : ℕ → List DigitChange → ℕ
word_by j [] = 0
word_by j (c ∷ cs) = value_of c.digit j + room_of c.digit.range * word_by j cs

-- all bits of a digit if a value is required at it, otherwise none
abbrev pub mask_at : ℕ → Change → ℕ
mask_at room Kept = 0
mask_at room (Required c) = room - 1
mask_at room (Moved from to) = room - 1
mask_at room (Assigned e) = room - 1

-- the required value, and 0 if there is none
abbrev pub want_at : Change → ℕ
want_at Kept = 0
want_at (Required c) = c
want_at (Moved from to) = to
want_at (Assigned e) = e

-- the bits of the digits at which a value is required, and these values there
abbrev pub mask_by : List DigitChange → ℕ
mask_by [] = 0
mask_by (c ∷ cs) = mask_at (room_of c.digit.range) c.change + room_of c.digit.range * mask_by cs

abbrev pub want_by : List DigitChange → ℕ
want_by [] = 0
want_by (c ∷ cs) = want_at c.change + room_of c.digit.range * want_by cs

-- the range is a power of two
abbrev pub IsPlain : Digit → Type 0
IsPlain d = room_of d.range ≡ d.range
