-- The pass over the lines with stamps as the code makes it: whether a stamp ascends is decided when the one before it
-- is blanked, so that both are still in the text.
use Rattle.std.specs.Prelude.{ℕ, Bool, true, if◌then◌else◌, List, [], ◌∷◌, ◌++◌, length, replicate, ◌-◌, Option, Some, None}
use Rattle.optplan_plan_texts.specs.Decimals.{Decimal}
use Rattle.optplan_plan_texts.specs.Lines.{lines, joined, stamp_of}
use Rattle.optplan_plan_texts.specs.Plain.{ascends, without_stamp}

-- whether a line's stamp ascends, or, if it has none, whether the first one of the later lines does
abbrev pub ascends_or : Option Decimal → Option Decimal → Bool → Bool
ascends_or before None later = later
ascends_or before (Some stamp) later = ascends before stamp

-- whether the first stamp of the lines ascends after this one; so too if they have none
abbrev pub first_ascends : Option Decimal → List (List ℕ) → Bool
first_ascends before [] = true
first_ascends before (l ∷ ls) = ascends_or before (stamp_of l) (first_ascends before ls)

abbrev pub line_if : Bool → Option Decimal → List ℕ → List ℕ
line_if ascending None line = line
line_if ascending (Some stamp) line = if ascending then without_stamp line else line

-- whether the next stamp ascends, after a line with this stamp, if it has one
abbrev pub next_ascends : Bool → Option Decimal → List (List ℕ) → Bool
next_ascends ascending None ls = ascending
next_ascends ascending (Some stamp) ls = first_ascends (Some stamp) ls

-- the lines, if it is known whether their first stamp ascends
abbrev pub lines_if : Bool → List (List ℕ) → List (List ℕ)
lines_if ascending [] = []
lines_if ascending (l ∷ ls) = line_if ascending (stamp_of l) l ∷ lines_if (next_ascends ascending (stamp_of l) ls) ls

abbrev pub text_if : Bool → List ℕ → List ℕ
text_if ascending text = joined (lines_if ascending (lines text))

-- the digits of a number with this many before the point: zeros come first
abbrev pub aligned : ℕ → Decimal → List ℕ
aligned wholes d = replicate (wholes - length d.whole) 48 ++ (d.whole ++ d.fraction)
