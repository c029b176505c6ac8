-- Blanks and digits of a text, and the bytes after them.
use Rattle.std.specs.Prelude.{ℕ, Bool, false, ◌==◌, ◌&&◌, ◌||◌, nat_le, if◌then◌else◌, List, [], ◌∷◌, map, Option, Some, None}

-- a tab, a carriage return or a space: a blank of the plan reader that ends no line
abbrev pub is_blank : ℕ → Bool
is_blank b = b == 9 || b == 13 || b == 32

abbrev pub is_digit : ℕ → Bool
is_digit b = nat_le 48 b && nat_le b 57

-- the bytes from the first that is not a blank
abbrev pub after_blanks : List ℕ → List ℕ
after_blanks [] = []
after_blanks (b ∷ bs) = if is_blank b then after_blanks bs else b ∷ bs

-- the digits at the start
abbrev pub digits : List ℕ → List ℕ
digits [] = []
digits (b ∷ bs) = if is_digit b then b ∷ digits bs else []

-- the bytes from the first that is not a digit
abbrev pub after_digits : List ℕ → List ℕ
after_digits [] = []
after_digits (b ∷ bs) = if is_digit b then after_digits bs else b ∷ bs

abbrev pub begins_with_blank : List ℕ → Bool
begins_with_blank [] = false
begins_with_blank (b ∷ bs) = is_blank b

abbrev pub begins_with_digit : List ℕ → Bool
begins_with_digit [] = false
begins_with_digit (b ∷ bs) = is_digit b

abbrev pub begins_with : ℕ → List ℕ → Bool
begins_with byte [] = false
begins_with byte (b ∷ bs) = b == byte

-- the bytes after this one, if it is the first
abbrev pub after_byte : ℕ → List ℕ → Option (List ℕ)
after_byte byte [] = None
after_byte byte (b ∷ bs) = if b == byte then Some bs else None

-- a byte that is blanked: a blank stays, and any other byte becomes a space
abbrev pub blanked_byte : ℕ → ℕ
blanked_byte b = if is_blank b then b else 32

abbrev pub blanked : List ℕ → List ℕ
blanked bytes = map blanked_byte bytes
