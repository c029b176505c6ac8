-- Classes that occur twice in a row of classes.
use Rattle.std.specs.Prelude.{◌≡◌, ℕ, ◌<◌, List, length, slice_index}

pub record OccursTwice (classes : List ℕ) : Type 0 where
  pub first : ℕ
  pub second : ℕ
  pub order : first < second
  pub within : second < length classes
  pub same : slice_index classes first ≡ slice_index classes second
