-- What an explanation consists of.
use Rattle.std.specs.Prelude.{◌≡◌, ℕ, ◌+◌, List, [], ◌++◌, length, Option, Some, None, IfSome, codes, decimal}
use Rattle.optplan_explain.specs.declared.spot.Spot.{Spot}
use Rattle.optplan_explain.specs.declared.spot.Spot.TheVariants.{Byte, End, Line, LastLine}
use Rattle.optplan_explain.specs.Places.{IsInLine, lines_before, bytes_before}
use Rattle.optplan_explain.specs.Shown.{shown_part, caret, shown_line}

-- the line that states the nearest declared name, or nothing if none is near
abbrev pub hint : Option (List ℕ) → List ℕ
hint None = []
hint (Some name) = codes "nearest declared name: " ++ name ++ codes "\n"

-- the path, the line and the column, and a sentence
unfoldable pub heading : List ℕ → ℕ → ℕ → List ℕ → List ℕ
heading path line column sentence =
    path ++ codes ":" ++ decimal line ++ codes ":" ++ decimal column ++ codes ": " ++ sentence ++ codes "\n"

-- a heading with some sentence, the part of the line that holds byte `at`, a caret under it, and a hint or nothing
abbrev pub IsByteExplanation : List ℕ → List ℕ → ℕ → List ℕ → Type 0
IsByteExplanation path text at explanation =
    (sentence : List ℕ) × (nearest : Option (List ℕ)) × IsInLine sentence × IfSome nearest IsInLine
    × (explanation ≡
    heading path (1 + lines_before text at) (1 + bytes_before text at) sentence
    ++ shown_part text at ++ codes "\n"
    ++ caret text at ++ codes "\n"
    ++ hint nearest)

-- the line's number, a sentence, and the line, counted from 1
abbrev pub IsLineExplanation : List ℕ → List ℕ → ℕ → List ℕ → Type 0
IsLineExplanation path text line explanation =
    (sentence : List ℕ) × IsInLine sentence
    × (explanation ≡
    path ++ codes ":" ++ decimal line ++ codes ": " ++ sentence ++ codes "\n"
    ++ shown_line text line ++ codes "\n")

-- an explanation of a fault at this spot of a text
abbrev pub IsExplanationAt : List ℕ → List ℕ → Spot → List ℕ → Type 0
IsExplanationAt path text (Byte at) explanation = IsByteExplanation path text at explanation
IsExplanationAt path text End explanation = IsByteExplanation path text (length text) explanation
IsExplanationAt path text (Line line) explanation = IsLineExplanation path text line explanation
IsExplanationAt path text LastLine explanation = IsLineExplanation path text (1 + lines_before text (length text)) explanation
