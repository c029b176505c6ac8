-- Decimal numbers of any length, `D` or `D.D`, and their order.
use Rattle.std.specs.Prelude.{◌≡◌, true, ℕ, ◌+◌, ◌*◌, ◌-◌, ◌^◌, max, Bool, ◌==◌, ◌&&◌, nat_lt, if◌then◌else◌, List, [], ◌∷◌, ◌++◌, length, Option, Some, None}
use Rattle.std.specs.List.{list_all}
use Rattle.optplan_plan_texts.specs.declared.decimal.Decimal.{Decimal as Read}
use Rattle.optplan_plan_texts.specs.Bytes.{is_digit, digits, after_digits, begins_with_digit}

-- the digits before the point and those after it
pub record Decimal : Type 0 where
  pub whole : List ℕ
  pub fraction : List ℕ

-- each byte of both is a digit
pub record HasDigits (d : Decimal) : Type 0 where
  pub whole : list_all is_digit d.whole ≡ true
  pub fraction : list_all is_digit d.fraction ≡ true

-- ---- texts

-- the digits after the point, if the bytes begin with a point
abbrev pub fraction : List ℕ → List ℕ
fraction [] = []
fraction (b ∷ bs) = if b == 46 then digits bs else []

-- the bytes after a point and the digits that follow it, if the bytes begin with them
abbrev pub after_fraction : List ℕ → List ℕ
after_fraction [] = []
after_fraction (b ∷ bs) = if b == 46 && begins_with_digit bs then after_digits bs else b ∷ bs

-- the number at the start of the bytes
abbrev pub decimal_at : List ℕ → Decimal
decimal_at bytes = record { whole = digits bytes; fraction = fraction (after_digits bytes) }

-- the bytes after the number at their start, if they begin with one
abbrev pub after_decimal : List ℕ → Option (List ℕ)
after_decimal bytes = if begins_with_digit bytes then Some (after_fraction (after_digits bytes)) else None

-- the number, from its representation in memory
abbrev pub read : Read → Decimal
read d = record { whole = d.whole.now; fraction = d.fraction.now }

-- ---- order

-- the natural number with these digits
abbrev pub number : List ℕ → ℕ
number [] = 0
number (d ∷ ds) = (d - 48) * 10 ^ length ds + number ds

-- the number in units of the n-th digit after the point, for an n of at least the number of its digits there
abbrev pub in_units : ℕ → Decimal → ℕ
in_units n d = number (d.whole ++ d.fraction) * 10 ^ (n - length d.fraction)

-- whether the first number is less than the second: in units of the last digit of the longer fraction
abbrev pub is_less : Decimal → Decimal → Bool
is_less a b =
    let n = max (length a.fraction) (length b.fraction) in
    nat_lt (in_units n a) (in_units n b)
