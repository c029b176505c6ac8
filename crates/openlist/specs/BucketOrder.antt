-- The order of the entries of one bucket.
use Rattle.std.specs.Prelude.{Bool, true, ◌≡◌, ◌&&◌, ◌||◌, nat_le, List, All}
use Rattle.openlist.specs.declared.bucket_entry.BucketEntry.{BucketEntry}
use Rattle.openlist.specs.OpenLists.{is_lower, is_same_rank}

-- the first entry comes before the second or is equal to it: by rank, then by index
abbrev pub comes_before : BucketEntry → BucketEntry → Bool
comes_before x y = is_lower x.rank y.rank || (is_same_rank x.rank y.rank && nat_le x.index y.index)

-- the entry comes before each of these entries or is equal to it
abbrev pub IsBefore : BucketEntry → List BucketEntry → Type 0
IsBefore x ys = All (λ y. comes_before x y ≡ true) ys
