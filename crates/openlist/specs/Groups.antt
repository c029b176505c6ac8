-- Groups of entries of one bucket: those with the same rank and the same upper half of the index.
use Rattle.std.specs.Prelude.{ℕ, ◌<◌, ◌≤◌, ◌≡◌, Bool, true, ◌&&◌, ◌||◌, nat_lt, List, [], ◌∷◌, ◌++◌, length, map, All, slice_index_or}
use Rattle.openlist.specs.declared.bucket_entry.BucketEntry.{BucketEntry}
use Rattle.openlist.specs.declared.bucket_entry.GroupKey.{GroupKey}
use Rattle.openlist.specs.Halves.{upper_of, joined_of}
use Rattle.openlist.specs.OpenLists.{is_lower, is_same_rank}

-- a group: what its entries have in common, and the lower halves of their indices
pub record GroupHeld : Type 0 where
  pub key : GroupKey
  pub lowers : List ℕ

-- the key of the entry's group
abbrev pub key_of : BucketEntry → GroupKey
key_of e = record { rank = e.rank; upper = upper_of e.index }

-- the entry of the group with this key whose index has this lower half
abbrev pub entry_in : GroupKey → ℕ → BucketEntry
entry_in key lower = record { rank = key.rank; index = joined_of key.upper lower }

-- the first key is below the second: by rank, then by the upper half
abbrev pub is_lower_key : GroupKey → GroupKey → Bool
is_lower_key x y = is_lower x.rank y.rank || (is_same_rank x.rank y.rank && nat_lt x.upper y.upper)

-- the entries of a group
abbrev pub entries_in : GroupHeld → List BucketEntry
entries_in group = map (entry_in group.key) group.lowers

-- the entries of all groups
abbrev pub grouped : List GroupHeld → List BucketEntry
grouped [] = []
grouped (g ∷ gs) = entries_in g ++ grouped gs

-- each number is at most those after it
abbrev pub IsAscending : List ℕ → Type 0
IsAscending [] = Unit {0}
IsAscending (x ∷ xs) = All (λ y. x ≤ y) xs × IsAscending xs

-- the key is above those of these groups
abbrev pub IsAbove : GroupKey → List GroupHeld → Type 0
IsAbove key groups = All (λ g. is_lower_key g.key key ≡ true) groups

-- the key is below those of these groups
abbrev pub IsBelow : GroupKey → List GroupHeld → Type 0
IsBelow key groups = All (λ g. is_lower_key key g.key ≡ true) groups

-- the groups have one with this key, at this index
abbrev pub HasKeyAt : GroupKey → List GroupHeld → ℕ → Type 0
HasKeyAt key groups place = (place < length groups) × ((d : GroupHeld) → (slice_index_or groups place d).key ≡ key)

-- groups as a bucket has them: none is empty, and each key is above those of the groups after it
abbrev pub AreGroups : List GroupHeld → Type 0
AreGroups [] = Unit {0}
AreGroups (g ∷ gs) = (0 < length g.lowers) × IsAbove g.key gs × AreGroups gs
