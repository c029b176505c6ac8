-- The classes of one variable by its asked values.
use Rattle.std.specs.Prelude.{◌≡◌, ℕ, ◌<◌, ◌↔◌, ◌==◌, ◌&&◌, ◌||◌, Bool, false, not, List, length, slice_index, slice_index_or}

-- whether two values are in different classes: they differ, and one of them is asked for
abbrev pub apart_in : List Bool → ℕ → ℕ → Bool
apart_in asked x y = not (x == y) && (slice_index_or asked x false || slice_index_or asked y false)

-- two values share a class exactly if they are not apart
abbrev pub ShareBy : List Bool → List ℕ → Type 0
ShareBy asked classes =
    (x y : ℕ) → x < length asked → y < length asked → (slice_index classes x ≡ slice_index classes y) ↔ (apart_in asked x y ≡ false)
