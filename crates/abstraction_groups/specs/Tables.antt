-- Tables of changes, found by hashing: a chain of rows for each bucket, the latest first. A link is the number of a row
-- plus one, or 0 for none.
use Rattle.std.specs.Prelude.{◌≡◌, ℕ, ◌+◌, ◌/◌, ◌%◌, ◌^◌, ◌<◌, ◌≤◌, List, length, slice_get, slice_index, Some}
use Rattle.abstraction_groups.specs.declared.change.Change.{Change}
use Rattle.abstraction_groups.specs.Hashes.{hash_of}
use Rattle.abstraction_groups.specs.RowLaws.{AreDistinct}

-- the bucket of the changes, if there are `count` buckets
unfoldable pub bucket_of : ℕ → List Change → ℕ
bucket_of count changes = hash_of changes / 2 ^ 32 % count

-- the row is in the chain that begins with the link
pub data Reaches (links : List ℕ) : ℕ → ℕ → Type 0 where
  here : (link g : ℕ) → link ≡ g + 1 → Reaches links link g
  there : (link n g : ℕ) → link ≡ n + 1 → Reaches links (slice_index links n) g → Reaches links link g

-- each row is reached from its bucket; a link names an earlier row
pub record AreChained (rows : List (List Change)) (heads links : List ℕ) : Type 0 where
  pub some : 0 < length heads
  pub as_long : length links ≡ length rows
  pub heads_below : (b : ℕ) → slice_index heads b ≤ length rows
  pub links_below : (n : ℕ) → n < length rows → slice_index links n ≤ n
  pub reached : (g : ℕ) (cs : List Change) → slice_get rows g ≡ Some cs → Reaches links (slice_index heads (bucket_of (length heads) cs)) g
  pub distinct : AreDistinct rows
