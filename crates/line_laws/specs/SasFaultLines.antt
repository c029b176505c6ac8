-- The line that a fault names, and texts with the same first lines.
use Rattle.std.specs.Prelude.{◌≡◌, ℕ, ◌≤◌, List, take, Option, Some, None, IsSomeAnd}
use Rattle.sasfile_reader.specs.declared.fault.SasFault.{SasFault}
use Rattle.sasfile_reader.specs.declared.fault.SasFault.TheVariants as fault
use Rattle.sasfile_reader.specs.Lines.{lines}

-- the number of the line; an exceeded limit and a text that ends too soon have none
abbrev pub line_of : SasFault → Option ℕ
line_of fault.OutOfMemory = None
line_of (fault.Limit t) = None
line_of (fault.Version n) = Some n
line_of (fault.Expected n) = Some n
line_of (fault.Range n) = Some n
line_of (fault.Axioms n) = Some n
line_of (fault.ConditionalEffect n) = Some n
line_of fault.Truncated = None
line_of (fault.Trailing n) = Some n

-- the fault names one of the first n lines
abbrev pub IsWithin : ℕ → SasFault → Type 0
IsWithin n e = IsSomeAnd (line_of e) (λ m. m ≤ n)

-- the first n lines of both texts are the same, but for blanks and carriage returns at their ends; or all lines are, if
-- there are fewer than n
abbrev pub HaveSameLines : ℕ → List ℕ → List ℕ → Type 0
HaveSameLines n s t = take n (lines s) ≡ take n (lines t)
