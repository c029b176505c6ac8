-- What is shown of a text.
use Rattle.std.specs.Prelude.{ℕ, ◌-◌, ◌&&◌, nat_le, min, if◌then◌else◌, List, ◌++◌, take, drop, length, map, replicate, codes}
use Rattle.std.specs.List.{prefix_len, suffix_len}
use Rattle.optplan_explain.specs.Places.{is_in_line, after_lines}

-- the byte if it is printable ASCII, and a blank otherwise
abbrev pub printable : ℕ → ℕ
printable b = if nat_le 32 b && nat_le b 126 then b else 32

-- how many bytes are shown of the line before the end of a text: at most 100
abbrev pub shown_before : List ℕ → ℕ
shown_before front = min 100 (suffix_len is_in_line front)

-- the last bytes of a text's last line that are shown
unfoldable pub shown_end : List ℕ → List ℕ
shown_end front = map printable (drop (length front - shown_before front) front)

-- the first bytes of a text's first line that are shown: at most `most`
unfoldable pub shown_start : ℕ → List ℕ → List ℕ
shown_start most rest = map printable (take (min most (prefix_len is_in_line rest)) rest)

-- a caret after as many blanks as bytes are shown before the end of a text
unfoldable pub caret_after : List ℕ → List ℕ
caret_after front = replicate (shown_before front) 32 ++ codes "^"

-- the shown part of the line that holds byte `at`: at most 100 bytes before it, and 60 from it on
abbrev pub shown_part : List ℕ → ℕ → List ℕ
shown_part text at = shown_end (take at text) ++ shown_start 60 (drop at text)

-- the caret under byte `at` of the shown part
abbrev pub caret : List ℕ → ℕ → List ℕ
caret text at = caret_after (take at text)

-- the shown part of line `n`, counted from 1: at most its first 160 bytes
abbrev pub shown_line : List ℕ → ℕ → List ℕ
shown_line text n = shown_start 160 (after_lines (n - 1) text)
