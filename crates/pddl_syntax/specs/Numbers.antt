-- Words that are read as numbers.
use Rattle.std.specs.Prelude.{ℕ, ◌+◌, ◌*◌, ◌-◌, ◌==◌, ◌&&◌, nat_le, Bool, true, false, if◌then◌else◌, List, [], ◌∷◌}
use Rattle.std.specs.List.{list_all}
use Rattle.pddl_syntax.specs.declared.number.Number.{Number}
use Rattle.pddl_syntax.specs.declared.number.Number.TheVariants.{Whole, Fraction, OutOfRange, NoNumber}
use Rattle.pddl_syntax.specs.Limits.{max_number}

abbrev pub is_digit : ℕ → Bool
is_digit b = nat_le 48 b && nat_le b 57

abbrev pub in_range : ℕ → Number
in_range n = if nat_le n max_number then Whole n else OutOfRange

abbrev pub by_zeros : Bool → Bool → ℕ → Number
by_zeros true digits n = in_range n
by_zeros false true n = Fraction
by_zeros false false n = NoNumber

-- after the point: one or more digits; the number is whole if they are all zeros
abbrev pub after_point : ℕ → List ℕ → Number
after_point n [] = NoNumber
after_point n (b ∷ bs) = by_zeros (list_all (λ c. c == 48) (b ∷ bs)) (list_all is_digit (b ∷ bs)) n

-- after the first digits, which have the value n
abbrev pub after_digits : ℕ → List ℕ → Number
after_digits n [] = in_range n
after_digits n (b ∷ bs) =
    if is_digit b then after_digits (n * 10 + (b - 48)) bs
    else (if b == 46 then after_point n bs else NoNumber)

-- one or more digits, and then nothing, or a point and digits
abbrev pub unsigned : List ℕ → Number
unsigned [] = NoNumber
unsigned (b ∷ bs) = if is_digit b then after_digits (b - 48) bs else NoNumber

abbrev pub negated : Number → Number
negated (Whole n) = OutOfRange
negated OutOfRange = OutOfRange
negated Fraction = NoNumber
negated NoNumber = NoNumber

abbrev pub number_of : List ℕ → Number
number_of [] = NoNumber
number_of (b ∷ bs) = if b == 45 then negated (unsigned bs) else unsigned (b ∷ bs)
