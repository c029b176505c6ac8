-- The value, in contracts, of an open list as an array of buckets by f, with one heap for the entries without a bucket.
use Rattle.std.specs.Prelude.{ℕ, ◌+◌, ◌<◌, ◌≤◌, ◌≡◌, ◌==◌, nat_le, Bool, cond, List, [], ◌∷◌, ◌++◌, length, map, All, count_by, slice_index, slice_index_or}
use Rattle.std.proofs.Common.{arith}
use Rattle.std.proofs.Math.Nat.{le_trans}
use Rattle.std.proofs.lemmas.List.Sums.{sum_by-cons}
use Rattle.openlist.specs.declared.entry.OpenEntry.{OpenEntry}
use Rattle.openlist.specs.declared.bucket_entry.BucketEntry.{BucketEntry}
use Rattle.openlist.specs.declared.row.TheConstants.{FAR}
use Rattle.openlist.specs.Heaps.{Held}

-- a bucket: its entries, those of the groups and then those of the heap in the heap's own order; the number of entries
-- that still fit in the heap without an allocation; and the number for which the last call of reserve has requested
-- room
pub record BucketHeld : Type 0 where
  pub entries : List BucketEntry
  pub spare : ℕ
  pub asked : ℕ

-- an open list as buckets: the entries of each bucket, the number that still fit in each, the index at which the search
-- for the least entry starts, and the heap of the entries without a bucket
pub record BucketsHeld : Type 0 where
  pub row : List (List BucketEntry)
  pub spares : List ℕ
  pub least : ℕ
  pub far : Held

-- the entries of each bucket
abbrev pub row_of : List BucketHeld → List (List BucketEntry)
row_of buckets = map (λ b. b.entries) buckets

-- the number of entries that still fit in each bucket
abbrev pub spares_of : List BucketHeld → List ℕ
spares_of buckets = map (λ b. b.spare) buckets

-- the open list of these buckets, with start index `least` and heap `far`
abbrev pub held_of : List BucketHeld → ℕ → Held → BucketsHeld
held_of buckets least far =
    record { row = row_of buckets; spares = spares_of buckets; least = least; far = far }

-- the entry with this f-value
abbrev pub with_f : ℕ → BucketEntry → OpenEntry
with_f f e = record { f = f; rank = e.rank; index = e.index }

-- the entry of a bucket with cost `b`, number of operators `c` and index `d`
abbrev pub bucket_entry_of : ℕ → ℕ → ℕ → BucketEntry
bucket_entry_of b c d = record { rank = record { cost = b; steps = c }; index = d }

-- the entries of an array of buckets, the first of which is that of f-value `f`
abbrev pub row_entries : ℕ → List (List BucketEntry) → List OpenEntry
row_entries f [] = []
row_entries f (b ∷ bs) = map (with_f f) b ++ row_entries (f + 1) bs

-- all entries: those of the buckets, and those without a bucket
abbrev pub all_entries : BucketsHeld → List OpenEntry
all_entries held = row_entries 0 held.row ++ held.far.entries

-- no bucket below this index has an entry
abbrev pub IsEmptyBelow : ℕ → List (List BucketEntry) → Type 0
IsEmptyBelow place row = (f : ℕ) → f < place → slice_index_or row f [] ≡ []

-- the buckets of both arrays have the same entries; a missing bucket has none
abbrev pub HasSameEntries : List (List BucketEntry) → List (List BucketEntry) → Type 0
HasSameEntries old new = (f : ℕ) → slice_index_or new f [] ≡ slice_index_or old f []

-- no bucket has less room than before
abbrev pub KeepsRoom : List ℕ → List ℕ → Type 0
KeepsRoom old new = (f : ℕ) → slice_index old f ≤ slice_index new f

-- only f-values below FAR have buckets, no bucket below the start index has an entry, and only entries without a bucket
-- are in the heap
pub record IsInOrder (held : BucketsHeld) : Type 0 where
  pub near : length held.row ≤ FAR
  pub below : IsEmptyBelow held.least held.row
  pub far : All (λ e. FAR ≤ e.f) held.far.entries

-- the number of occurrences of the f-value in the list
abbrev pub count_of : ℕ → List ℕ → ℕ
count_of f fs = count_by (λ g. g == f) fs

-- each f-value of the list that can have a bucket has one in an array of this length
abbrev pub HasBuckets : List ℕ → ℕ → Type 0
HasBuckets fs len = All (λ f. f < FAR → f < len) fs

-- the number of f-values of the list without a bucket
abbrev pub far_count : List ℕ → ℕ
far_count fs = count_by (λ g. nat_le FAR g) fs

-- each bucket has room for as many entries as the list has occurrences of its f-value
abbrev pub HasRoomNear : List ℕ → List ℕ → Type 0
HasRoomNear spares fs = (f : ℕ) → f < FAR → count_of f fs ≤ slice_index spares f

-- each bucket has room for as many entries as the list has occurrences of its f-value, and so has the heap for f-values
-- without a bucket
pub record HasRoomIn (held : BucketsHeld) (fs : List ℕ) : Type 0 where
  pub near : HasRoomNear held.spares fs
  pub far : far_count fs ≤ held.far.spare

-- a test passes at least as often if there is one more element
pub count_by-tail : (p : ℕ → Bool) (x : ℕ) (xs : List ℕ) → count_by p xs ≤ count_by p (x ∷ xs)
count_by-tail p x xs = omega (arith, sum_by-cons (λ y. cond (p y) 1 0) x xs)

-- room for a list of f-values is room for its tail
pub has_room_in_fewer : (held : BucketsHeld) (f : ℕ) (fs : List ℕ) → HasRoomIn held (f ∷ fs) → HasRoomIn held fs
has_room_in_fewer held f fs room = record {
  near = λ g is_near. le_trans (count_by-tail (λ h. h == g) f fs) (room.near g is_near);
  far = le_trans (count_by-tail (λ h. nat_le FAR h) f fs) room.far;
}
