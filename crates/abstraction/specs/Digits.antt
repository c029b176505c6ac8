-- The encoding of the values of a pattern's variables in an abstract state: the value at a digit is the number divided
-- by the digit's weight, modulo its range.
use Rattle.std.specs.Prelude.{ℕ, ◌+◌, ◌-◌, ◌*◌, ◌/◌, ◌%◌, ◌<◌, ◌≤◌, ◌==◌, if◌then◌else◌, List, [], ◌∷◌, Option, Some, None, option_map, slice_index}
use Rattle.std.specs.Option.{option_map_or}
use Rattle.fdr.specs.declared.fact.Fact.{Fact}
use Rattle.abstraction.specs.declared.digit.Digit.{Digit}

-- the digit with one more variable, of range r, below it
abbrev pub higher_digit : ℕ → Digit → Digit
higher_digit r d = record { weight = r * d.weight; range = d.range }

-- the digit of a variable, if the pattern has it
abbrev pub digit_of : List ℕ → List ℕ → ℕ → Option Digit
digit_of ranges [] v = None
digit_of ranges (p ∷ ps) v =
    if p == v then Some (record { weight = 1; range = slice_index ranges p })
    else option_map (higher_digit (slice_index ranges p)) (digit_of ranges ps v)

-- the value at the digit
abbrev pub value_of : Digit → ℕ → ℕ
value_of d i = i / d.weight % d.range

-- the abstract state with another value at the digit
abbrev pub with_value : Digit → ℕ → ℕ → ℕ
with_value d i x = i - value_of d i * d.weight + x * d.weight

-- the abstract state with the value of the fact, if the pattern has its variable, otherwise the same
abbrev pub with_fact : List ℕ → List ℕ → ℕ → Fact → ℕ
with_fact ranges pattern i f = option_map_or (λ d. with_value d i f.value) (digit_of ranges pattern f.variable) i

-- weight and range are positive, and the digit fits into the number of abstract states
pub record IsDigitBelow (size : ℕ) (d : Digit) : Type 0 where
  pub weight : 0 < d.weight
  pub range : 0 < d.range
  pub within : d.range * d.weight ≤ size

-- the digits of the pattern's variables, in their order, the first of them with the weight `weight`
abbrev pub digits_from : List ℕ → ℕ → List ℕ → List Digit
digits_from ranges weight [] = []
digits_from ranges weight (p ∷ ps) =
    record { weight = weight; range = slice_index ranges p } ∷ digits_from ranges (weight * slice_index ranges p) ps
