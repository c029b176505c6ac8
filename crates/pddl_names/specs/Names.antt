-- Distinct names and their numbers. The number of a name is its index in a list of texts.
use Rattle.std.specs.Prelude.{◌≡◌, ℕ, ◌+◌, nat_eq, nat_lt, Bool, if◌then◌else◌, List, [], ◌∷◌, ◌++◌, map, length, position, slice_get, Option, Some, String}
use Rattle.std.specs.Cmp.Lexicographic.{pointwise}
use Rattle.std.specs.String.{string_bytes}

-- whether two texts are equal; `==` of strings computes this
abbrev pub same_text : List ℕ → List ℕ → Bool
same_text a b = pointwise nat_eq a b

-- the texts of strings
abbrev pub texts_of : {Z : Type 0} → List (String Z) → List (List ℕ)
texts_of strings = map string_bytes strings

-- the index of the first name that equals this text
abbrev pub place_of : List (List ℕ) → List ℕ → Option ℕ
place_of names t = position (λ s. same_text s t) names

-- the index of the first name that equals this text, or the length of the list if no name equals it
abbrev pub number_of : List (List ℕ) → List ℕ → ℕ
number_of [] t = 0
number_of (s ∷ ss) t = if same_text s t then 0 else number_of ss t + 1

-- whether a name equals this text
abbrev pub is_there : List (List ℕ) → List ℕ → Bool
is_there names t = nat_lt (number_of names t) (length names)

-- the names with this one, which is appended if it is new
abbrev pub with_name : List (List ℕ) → List ℕ → List (List ℕ)
with_name names t = if is_there names t then names else names ++ t ∷ []

-- the names are distinct: the first occurrence of the name at each index is that index
abbrev pub AreDistinct : List (List ℕ) → Type 0
AreDistinct names = (n : ℕ) (t : List ℕ) → slice_get names n ≡ Some t → place_of names t ≡ Some n
