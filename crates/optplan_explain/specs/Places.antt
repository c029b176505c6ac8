-- Lines and columns of a text.
use Rattle.std.specs.Prelude.{ℕ, zero, suc, ◌==◌, not, Bool, if◌then◌else◌, List, [], ◌∷◌, IsTrue, take, count_by}
use Rattle.std.specs.List.{list_all, suffix_len}

-- whether a byte is a line feed
abbrev pub is_line_feed : ℕ → Bool
is_line_feed b = b == 10

-- whether a byte does not end its line
abbrev pub is_in_line : ℕ → Bool
is_in_line b = not (is_line_feed b)

-- words without a line feed
abbrev pub IsInLine : List ℕ → Type 0
IsInLine words = IsTrue (list_all is_in_line words)

-- the number of line feeds before byte `at`; here and below, an offset past the end counts as the end
abbrev pub lines_before : List ℕ → ℕ → ℕ
lines_before text at = count_by is_line_feed (take at text)

-- the number of bytes of the line before byte `at`
abbrev pub bytes_before : List ℕ → ℕ → ℕ
bytes_before text at = suffix_len is_in_line (take at text)

-- the text after the first `n` line feeds; empty if there are fewer
abbrev pub after_lines : ℕ → List ℕ → List ℕ
after_lines n [] = []
after_lines zero (b ∷ bs) = b ∷ bs
after_lines (suc n) (b ∷ bs) = if is_line_feed b then after_lines n bs else after_lines (suc n) bs
