-- Plan texts as other tools write them, in the form that the plan reader reads. No byte is moved, so that the byte
-- offset of a fault is that of the text as it was.
use Rattle.std.specs.Prelude.{ℕ, Bool, true, ◌==◌, if◌then◌else◌, List, [], ◌∷◌, Option, Some, None}
use Rattle.optplan_plan_texts.specs.Bytes.{blanked_byte, blanked}
use Rattle.optplan_plan_texts.specs.Decimals.{Decimal, is_less}
use Rattle.optplan_plan_texts.specs.Lines.{lines, joined, is_limit, stamp_of, is_duration}

-- ---- one line

-- the bytes after the step's closing parenthesis: blanked if they are a duration
abbrev pub after_step : List ℕ → List ℕ
after_step bytes = if is_duration bytes then blanked bytes else bytes

-- the bytes after a stamp's colon: the duration after the first closing parenthesis is blanked, unless a comment comes
-- first
abbrev pub without_duration : List ℕ → List ℕ
without_duration [] = []
without_duration (b ∷ bs) = b ∷ (if b == 41 then after_step bs else (if b == 59 then bs else without_duration bs))

-- the line with a stamp: its bytes up to the colon, and the duration, are blanked
abbrev pub without_stamp : List ℕ → List ℕ
without_stamp [] = []
without_stamp (b ∷ bs) = blanked_byte b ∷ (if b == 58 then without_duration bs else without_stamp bs)

-- ---- the limit

-- the first line is blanked if it is `limit N`
abbrev pub first_blanked : List (List ℕ) → List (List ℕ)
first_blanked [] = []
first_blanked (l ∷ ls) = (if is_limit l then blanked l else l) ∷ ls

abbrev pub without_limit : List ℕ → List ℕ
without_limit text = joined (first_blanked (lines text))

-- ---- time stamps (VAL: Howey, Long and Fox 2004)

-- whether a stamp is greater than the one before it, if there is one
abbrev pub ascends : Option Decimal → Decimal → Bool
ascends None stamp = true
ascends (Some before) stamp = is_less before stamp

-- the line with this stamp, if it has one, after the last stamp before it: a line whose stamp does not ascend stays as
-- it is
abbrev pub plain_line : Option Decimal → Option Decimal → List ℕ → List ℕ
plain_line before None line = line
plain_line before (Some stamp) line = if ascends before stamp then without_stamp line else line

-- the last stamp after a line with this stamp, if it has one
abbrev pub last_stamp : Option Decimal → Option Decimal → Option Decimal
last_stamp before None = before
last_stamp before (Some stamp) = Some stamp

-- the lines after a line with this last stamp
abbrev pub plain_lines : Option Decimal → List (List ℕ) → List (List ℕ)
plain_lines before [] = []
plain_lines before (l ∷ ls) = plain_line before (stamp_of l) l ∷ plain_lines (last_stamp before (stamp_of l)) ls

abbrev pub without_stamps : List ℕ → List ℕ
without_stamps text = joined (plain_lines None (lines text))

-- ---- the text

abbrev pub plain : List ℕ → List ℕ
plain text = without_stamps (without_limit text)
