-- Equality of lists of numbers up to order.
use Rattle.std.specs.Prelude.{◌≡◌, ℕ, ◌==◌, List, count_by}

-- each number occurs equally often in both lists
abbrev pub SameNumbers : List ℕ → List ℕ → Type 0
SameNumbers xs ys = (x : ℕ) → count_by (λ y. y == x) xs ≡ count_by (λ y. y == x) ys
