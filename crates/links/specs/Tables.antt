-- The ends of the links of all pairs of workers, by rows.
use Rattle.std.specs.Prelude.{◌≡◌, ℕ, List, [], ◌∷◌, ◌++◌, map, length, slice_get, Some, Vec}
use Rattle.links.specs.declared.ends.Out.{Out}
use Rattle.links.specs.declared.ends.In.{In}
use Rattle.links.specs.Ends.{IsFresh}

-- the elements of each row
abbrev pub rows : {A G : Type 0} → List (Vec A G) → List (List A)
rows {A} {G} vs = map (λ (v : Vec A G). v.items) vs

-- `n` rows of `m` elements
abbrev pub HasSize : {A : Type 0} → ℕ → ℕ → List (List A) → Type 0
HasSize {A} n m rs = (length rs ≡ n) × ((k : ℕ) (r : List A) → slice_get rs k ≡ Some r → length r ≡ m)

-- at each index, the two ends are those of one fresh link of this capacity
abbrev pub AreFresh : {F : Type 0} → ℕ → List (Out F) → List (In F) → Type 0
AreFresh {F = F} capacity os is = (k : ℕ) (o : Out F) (i : In F) → slice_get os k ≡ Some o → slice_get is k ≡ Some i → IsFresh capacity o i

-- for all w and v, the ends from w to v are those of one fresh link of this capacity
abbrev pub AreMatched : {F : Type 0} → ℕ → List (List (Out F)) → List (List (In F)) → Type 0
AreMatched {F = F} capacity outs ins = (w v : ℕ) (os : List (Out F)) (is : List (In F)) (o : Out F) (i : In F)
    → slice_get outs w ≡ Some os → slice_get os v ≡ Some o → slice_get ins v ≡ Some is → slice_get is w ≡ Some i → IsFresh capacity o i

-- each row with one more element, from the second list, at its end
abbrev pub grown : {A : Type 0} → List (List A) → List A → List (List A)
grown [] xs = []
grown (c ∷ cs) [] = []
grown (c ∷ cs) (x ∷ xs) = (c ++ x ∷ []) ∷ grown cs xs
