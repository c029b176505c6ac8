-- The lines of a text, and which of them have a limit or a time stamp.
use Rattle.std.specs.Prelude.{ℕ, Bool, true, false, ◌==◌, ◌&&◌, if◌then◌else◌, List, [], ◌∷◌, ◌++◌, Option, Some, None, option_and_then, codes}
use Rattle.std.specs.Option.{option_map_or}
use Rattle.optplan_plan_texts.specs.Bytes.{after_blanks, after_digits, begins_with_blank, begins_with_digit, begins_with, after_byte}
use Rattle.optplan_plan_texts.specs.Decimals.{Decimal, decimal_at, after_decimal}

-- the lines with one more byte at the start of the first
abbrev pub into_first : ℕ → List (List ℕ) → List (List ℕ)
into_first b [] = (b ∷ []) ∷ []
into_first b (l ∷ ls) = (b ∷ l) ∷ ls

-- The lines without their line feeds: the text is these lines with a line feed between every two of them. So an empty
-- line follows the last line feed.
abbrev pub lines : List ℕ → List (List ℕ)
lines [] = [] ∷ []
lines (b ∷ bs) = if b == 10 then [] ∷ lines bs else into_first b (lines bs)

-- the line and, if there are other lines, a line feed and their text
abbrev pub with_others : List ℕ → List (List ℕ) → List ℕ → List ℕ
with_others l [] others = l
with_others l (m ∷ ls) others = l ++ 10 ∷ others

-- the text with these lines
abbrev pub joined : List (List ℕ) → List ℕ
joined [] = []
joined (l ∷ ls) = with_others l ls (joined ls)

abbrev pub is_empty : List ℕ → Bool
is_empty [] = true
is_empty (b ∷ bs) = false

-- ---- limits

-- the bytes after this word, if they begin with it
abbrev pub after_word : List ℕ → List ℕ → Option (List ℕ)
after_word [] bytes = Some bytes
after_word (w ∷ ws) [] = None
after_word (w ∷ ws) (b ∷ bs) = if b == w then after_word ws bs else None

-- whether the bytes are blanks, digits and blanks, of which only the last may be missing
abbrev pub is_blank_and_number : List ℕ → Bool
is_blank_and_number bytes =
    begins_with_blank bytes && begins_with_digit (after_blanks bytes) && is_empty (after_blanks (after_digits (after_blanks bytes)))

-- whether the line is `limit N`, blanks after it or not: the first line that `solve` prints if the plan is not proved
-- cheapest
abbrev pub is_limit : List ℕ → Bool
is_limit line = option_map_or is_blank_and_number (after_word (codes "limit") line) false

-- ---- time stamps

-- the bytes after the number and the colon at the start of a line, blanks around the number or not
abbrev pub after_colon : List ℕ → Option (List ℕ)
after_colon line = option_and_then (λ rest. after_byte 58 (after_blanks rest)) (after_decimal (after_blanks line))

-- The time stamp of a line: a number `D` or `D.D`, a colon and an opening parenthesis, with or without blanks before
-- each.
abbrev pub stamp_of : List ℕ → Option Decimal
stamp_of line =
    if option_map_or (λ rest. begins_with 40 (after_blanks rest)) (after_colon line) false then Some (decimal_at (after_blanks line)) else None

-- ---- durations

-- the bytes after the duration at their start, `[D]` or `[D.D]`, blanks before it or not
abbrev pub after_duration : List ℕ → Option (List ℕ)
after_duration bytes = option_and_then (after_byte 93) (option_and_then after_decimal (after_byte 91 (after_blanks bytes)))

-- whether the bytes are a duration, blanks around it or not
abbrev pub is_duration : List ℕ → Bool
is_duration bytes = option_map_or (λ rest. is_empty (after_blanks rest)) (after_duration bytes) false
