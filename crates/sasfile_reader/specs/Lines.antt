-- Lines of a text, and the words and numbers of a line.
use Rattle.std.specs.Prelude.{ℕ, zero, suc, ◌+◌, ◌*◌, ◌-◌, Bool, ◌==◌, ◌&&◌, ◌||◌, nat_le, if◌then◌else◌, List, [], ◌∷◌, map, Option, Some, None, option_map}
use Rattle.sasfile_reader.specs.declared.number.Number.{Number}
use Rattle.sasfile_reader.specs.declared.number.Number.TheVariants.{Natural, Negative}

-- the pieces with one more byte at the start of the first
abbrev pub into_first : ℕ → List (List ℕ) → List (List ℕ)
into_first b [] = (b ∷ []) ∷ []
into_first b (p ∷ ps) = (b ∷ p) ∷ ps

-- The pieces between separators. After the last separator there is a piece only if there are bytes.
unfoldable pub pieces : ℕ → List ℕ → List (List ℕ)
pieces separator [] = []
pieces separator (b ∷ bs) = if b == separator then [] ∷ pieces separator bs else into_first b (pieces separator bs)

-- a blank or a carriage return
abbrev pub is_end_byte : ℕ → Bool
is_end_byte b = (b == 32) || (b == 13)

-- the byte before others, or nothing if it is dropped at the end of a line and no byte follows
abbrev pub before_end : ℕ → List ℕ → List ℕ
before_end b [] = if is_end_byte b then [] else b ∷ []
before_end b (c ∷ cs) = b ∷ c ∷ cs

-- the line without the blanks and carriage returns at its end
unfoldable pub trimmed : List ℕ → List ℕ
trimmed [] = []
trimmed (b ∷ bs) = before_end b (trimmed bs)

-- The lines of a text, without the blanks and carriage returns at their ends. The last line feed may be missing.
unfoldable pub lines : List ℕ → List (List ℕ)
lines text = map trimmed (pieces 10 text)

-- the pieces that are not empty
unfoldable pub filled : List (List ℕ) → List (List ℕ)
filled [] = []
filled ([] ∷ ps) = filled ps
filled ((b ∷ bs) ∷ ps) = (b ∷ bs) ∷ filled ps

-- the words of a line, which blanks separate
unfoldable pub words : List ℕ → List (List ℕ)
words line = filled (pieces 32 line)

-- whether a byte may be part of a name or of the name of a value
abbrev pub is_text_byte : ℕ → Bool
is_text_byte b = (b == 9) || (nat_le 32 b && nat_le b 126)

abbrev pub is_digit : ℕ → Bool
is_digit b = nat_le 48 b && nat_le b 57

-- the number with the digits of `n` followed by these digits
unfoldable pub digits_after : ℕ → List ℕ → Option ℕ
digits_after n [] = Some n
digits_after n (d ∷ ds) = if is_digit d then digits_after (n * 10 + (d - 48)) ds else None

-- the number of one or more digits
abbrev pub digits : List ℕ → Option ℕ
digits [] = None
digits (d ∷ ds) = digits_after 0 (d ∷ ds)

-- minus the number
abbrev pub minus : ℕ → Number
minus zero = Natural 0
minus (suc n) = Negative (suc n)

-- The number that a word spells: digits, with leading zeros allowed, with or without a `-` before them.
unfoldable pub number : List ℕ → Option Number
number [] = None
number (b ∷ bs) = if b == 45 then option_map minus (digits bs) else option_map Natural (digits (b ∷ bs))
