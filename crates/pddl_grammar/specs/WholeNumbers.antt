-- Whole numbers in base ten.
use Rattle.std.specs.Prelude.{◌≡◌, ◌≢◌, ℕ, ◌+◌, ◌*◌, ◌-◌, ◌^◌, ◌≤◌, List, [], ◌∷◌, ◌++◌, length}
use Rattle.std.specs.List.{AllByRecursion}
use Rattle.pddl_syntax.specs.Limits.{max_number}

-- a digit, from `0` to `9`
abbrev pub IsDigit : ℕ → Type 0
IsDigit b = (48 ≤ b) × (b ≤ 57)

-- the value of digits in base ten: each digit times the power of ten of the number of digits after it
abbrev pub value_of : List ℕ → ℕ
value_of [] = 0
value_of (d ∷ ds) = (d - 48) * 10 ^ length ds + value_of ds

-- nothing, or a point and one or more zeros
abbrev pub IsNoFraction : List ℕ → Type 0
IsNoFraction [] = Unit {0}
IsNoFraction (b ∷ zeros) = (b ≡ 46) × (zeros ≢ []) × AllByRecursion (λ c. c ≡ 48) zeros

-- the text is one or more digits, followed by nothing, or by a point and zeros; the number is the value of the digits
pub record SpellsNumber (text : List ℕ) (n : ℕ) : Type 0 where
  pub digits : List ℕ
  pub behind : List ℕ
  pub parts : text ≡ digits ++ behind
  pub some : digits ≢ []
  pub are_digits : AllByRecursion IsDigit digits
  pub no_fraction : IsNoFraction behind
  pub value_is : n ≡ value_of digits
  pub within : n ≤ max_number
