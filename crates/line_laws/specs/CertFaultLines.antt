-- The lines of a text, and the line that a fault names.
use Rattle.std.specs.Prelude.{ℕ, ◌+◌, ◌≤◌, List, [], ◌∷◌, Option, Some, None, IsSomeAnd}
use Rattle.cert_text.specs.declared.fault.CertFault.{CertFault}
use Rattle.cert_text.specs.declared.fault.CertFault.TheVariants as fault
use Rattle.cert_text.specs.Pieces.{pieces}

-- 1 if there are bytes after the last line feed
abbrev pub last_line : List ℕ → ℕ
last_line [] = 0
last_line (b ∷ bs) = 1

-- the number of the pieces between line feeds, without the last one if it is empty
abbrev pub line_count_of : List (List ℕ) → ℕ
line_count_of [] = 0
line_count_of (l ∷ []) = last_line l
line_count_of (l ∷ m ∷ ms) = 1 + line_count_of (m ∷ ms)

-- the number of lines: a line ends with a line feed, or with the text if there are bytes after the last line feed
abbrev pub line_count : List ℕ → ℕ
line_count text = line_count_of (pieces 10 text)

-- the number of the line; a text that is too long, and one that ends too soon, have none
abbrev pub line_of : CertFault → Option ℕ
line_of fault.OutOfMemory = None
line_of fault.Header = Some 1
line_of (fault.Expected n) = Some n
line_of (fault.Number n) = Some n
line_of fault.Truncated = None
line_of (fault.Trailing n) = Some n
line_of (fault.Order n) = Some n
line_of (fault.Classes n) = Some n
line_of fault.TooLong = None

-- the fault names one of the first n lines
abbrev pub IsWithin : ℕ → CertFault → Type 0
IsWithin n e = IsSomeAnd (line_of e) (λ m. m ≤ n)
