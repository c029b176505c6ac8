-- The last line on which each variable was named.
use Rattle.std.specs.Prelude.{◌≡◌, ℕ, ◌<◌, Bool, nat_le, List, length, slice_index}

-- The last line that named each variable is before the line `next`, and it is `since` or later exactly if the test
-- holds.
pub record Marks (named : List ℕ) (since next : ℕ) (test : ℕ → Bool) : Type 0 where
  pub earlier : (v : ℕ) → v < length named → slice_index named v < next
  pub said : (v : ℕ) → v < length named → nat_le since (slice_index named v) ≡ test v

-- the last line that named each variable is before the next line
pub record AreEarlier (named : List ℕ) (next : ℕ) : Type 0 where
  pub earlier : (v : ℕ) → v < length named → slice_index named v < next
