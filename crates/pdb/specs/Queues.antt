-- The entries of a queue of abstract states.
use Rattle.std.specs.Prelude.{◌≡◌, ℕ, ◌<◌, List, [], ◌∷◌, ◌++◌, length, slice_index_or, Vec}
use Rattle.pdb.specs.declared.queue.Entry.{Entry}

-- the entries of all buckets
abbrev pub entries_of : {Y : Type 0} → List (Vec Entry Y) → List Entry
entries_of [] = []
entries_of (b ∷ bs) = b.items ++ entries_of bs

-- the bucket exists and has an entry
abbrev pub IsFilled : {Y : Type 0} → List (Vec Entry Y) → ℕ → Type 0
IsFilled {Y = Y} buckets k = (k < length buckets) × ((d : Vec Entry Y) → 0 < length (slice_index_or buckets k d).items)
