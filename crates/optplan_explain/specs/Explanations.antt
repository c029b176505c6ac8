-- Explanations of faults.
use Rattle.std.specs.Prelude.{◌≡◌, ℕ, Bool, true, false, List, Option, None, IsSomeAnd, MatchOption}
use Rattle.optplan_replies.specs.declared.fault.Fault.{Fault}
use Rattle.optplan_explain.specs.Files.{ReadFiles, file_named}
use Rattle.optplan_explain.specs.Layouts.{IsExplanationAt}
use Rattle.optplan_explain.specs.Spots.{spot_of}

-- the explanation of a fault, which is there exactly if the fault has a spot in a text that was read
abbrev pub IsExplanation : Fault → ReadFiles → Option (List ℕ) → Type 0
IsExplanation fault files explanation =
    MatchOption (spot_of fault) (explanation ≡ None)
    (λ spot. MatchOption (file_named files spot.0) (explanation ≡ None)
    (λ file. IsSomeAnd explanation (λ text. IsExplanationAt file.path file.text spot.1 text)))

-- the explanation that is printed after the line of a fault: with the option `--explain` that of the fault, and without
-- it none
abbrev pub IsExplained : Bool → ReadFiles → Fault → Option (List ℕ) → Type 0
IsExplained false files fault explanation = explanation ≡ None
IsExplained true files fault explanation = IsExplanation fault files explanation
