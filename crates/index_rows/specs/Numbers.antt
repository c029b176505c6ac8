-- Numbers in lists, and rows of them.
use Rattle.std.specs.Prelude.{◌≡◌, ◌<◌, ◌==◌, ℕ, Bool, List, [], slice_index_or}
use Rattle.std.specs.List.{list_any}

-- the number is one of the numbers
abbrev pub has : List ℕ → ℕ → Bool
has numbers k = list_any (λ n. n == k) numbers

-- the numbers are the same, but for their order and repetitions
abbrev pub AreSameSet : List ℕ → List ℕ → Type 0
AreSameSet numbers more = (k : ℕ) → has numbers k ≡ has more k

-- the row with this number, or an empty one if there is none
abbrev pub row : List (List ℕ) → ℕ → List ℕ
row rows k = slice_index_or rows k []

-- below `count`, a row of one has a number if and only if the row of the other with that number has its number
abbrev pub IsTranspose : ℕ → List (List ℕ) → List (List ℕ) → Type 0
IsTranspose count rows columns = (p k : ℕ) → p < count → has (row columns p) k ≡ has (row rows k) p
