-- Rows of a table, and the slots through which they are found. The tag of a slot is that of its row's form.
use Rattle.std.specs.Prelude.{◌≡◌, ◌≢◌, ℕ, ◌+◌, ◌-◌, ◌*◌, ◌/◌, ◌^◌, ◌<◌, ◌≤◌, Bool, List, map, fold, length, slice_get, Some, IsTrue}
use Rattle.std.specs.Hash.{HashWrites}
use Rattle.std.specs.Hash.FoldHasher as hasher
use Rattle.slots.specs.declared.probing.Slot.{Slot}
use Rattle.slots.specs.Slots.{links_of, empties, home_of, IsFoundAfter}
use Rattle.closed.specs.declared.small_entry.SmallEntry.{SmallEntry}

-- the tag of a form that writes this to a hasher: the upper half of its hash
unfoldable pub tag_of : HashWrites → ℕ
tag_of writes = hasher.finish (fold hasher.write hasher.initial writes) / 2 ^ 32

-- the tags of the rows' forms
abbrev pub tags_of : {F : Type 0} → (F → HashWrites) → List (F × SmallEntry) → List ℕ
tags_of writes rows = map (λ p. tag_of (writes p.0)) rows

-- the number of rows for which `size` slots have room
abbrev pub room_in : ℕ → ℕ
room_in size = size / 3 * 2

-- the row at index `place` has the tag
abbrev pub HasTag : List ℕ → ℕ → ℕ → Type 0
HasTag tags place tag = slice_get tags place ≡ Some tag

-- one of the first `count` slots points to index `place` and has the tag
abbrev pub IsAmongFirst : ℕ → List (Slot ℕ) → ℕ → ℕ → Type 0
IsAmongFirst count slots place tag =
    (k : ℕ) × (slot : Slot ℕ) × (k < count) × (slice_get slots k ≡ Some slot) × (slot.link ≡ place + 1) × (slot.note ≡ tag)

-- the taken slots have exactly these indices and tags, and each index is found by probing from the home slot of its tag
pub record Holds (In : ℕ → ℕ → Type 0) (slots : List (Slot ℕ)) : Type 0 where
  pub found : (place tag : ℕ) → In place tag → (steps : ℕ) × IsFoundAfter (links_of slots) (home_of tag (length slots)) place steps
  pub only : (k : ℕ) (slot : Slot ℕ) → slice_get slots k ≡ Some slot → slot.link ≢ 0 → In (slot.link - 1) slot.note

-- every row is found by the tag of its form, the other slots are empty, at least a third of them, and no two forms are
-- equal
pub record AreIndexed {F : Type 0} (eq : F → F → Bool) (writes : F → HashWrites) (rows : List (F × SmallEntry))
    (slots : List (Slot ℕ)) : Type 0 where
  pub some : 0 < length slots
  pub few : length slots < 2 ^ 32
  pub room : length rows ≤ room_in (length slots)
  pub count : length rows + empties (links_of slots) ≡ length slots
  pub holds : Holds (HasTag (tags_of writes rows)) slots
  pub distinct : (i j : ℕ) (p q : F × SmallEntry) → slice_get rows i ≡ Some p → slice_get rows j ≡ Some q →
      IsTrue (eq p.0 q.0) → i ≡ j
