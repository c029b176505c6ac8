-- The value, in contracts, of an open list as a heap.
use Rattle.std.specs.Prelude.{ℕ, ◌≤◌, List, ◌∷◌, length}
use Rattle.std.proofs.Math.Nat.{le_of_suc-le}
use Rattle.openlist.specs.declared.entry.OpenEntry.{OpenEntry}

-- the entries, in the heap's own order, and the number of entries that still fit without an allocation
pub record Held : Type 0 where
  pub entries : List OpenEntry
  pub spare : ℕ

-- entries of these f-values, in this order and with any left out, fit without an allocation
unfoldable pub HasRoomFor : Held → List ℕ → Type 0
HasRoomFor held fs = length fs ≤ held.spare

-- room for a list of f-values is room for its tail
pub has_room_for_fewer : (held : Held) (f : ℕ) (fs : List ℕ) → HasRoomFor held (f ∷ fs) → HasRoomFor held fs
unfolding HasRoomFor
has_room_for_fewer held f fs room = le_of_suc-le room
