-- The order of the keys of groups, and of entries by the keys of their groups.
use Rattle.std.specs.Prelude.{true, false, Option, Some, All, nat_lt}
use Rattle.std.specs.Ordering.{nat_cmp, partial_ordering_then, partial_lt}
use Rattle.std.specs.declared.cmp.Ordering.{Ordering}
use Rattle.std.proofs.Common.{◌≡◌, ℕ, ◌<◌, ◌≤◌, ◌==◌, ◌&&◌, ◌^◌, Bool, List, map, arith, sym, ap, ◌∙◌}
use Rattle.std.proofs.lemmas.Bool.Decides.{nat_tests}
use Rattle.std.proofs.lemmas.List.Elements.{All-map}
use Rattle.openlist.specs.declared.bucket_entry.BucketEntry.{BucketEntry}
use Rattle.openlist.specs.declared.bucket_entry.GroupKey.{GroupKey}
use Rattle.openlist.specs.BucketOrder.{comes_before, IsBefore}
use Rattle.openlist.specs.Groups.{GroupHeld, entries_in, entry_in, IsAbove, is_lower_key, key_of}
use Rattle.openlist.specs.Halves.{joined_of, lower_of, upper_of}
use Rattle.openlist.proofs.BucketOrder.{rank_partial_cmp}
use Rattle.openlist.proofs.Order.{by_number, by_number-trans}

-- an index is joined from its halves
pub joined-halves : (index : ℕ) → joined_of (upper_of index) (lower_of index) ≡ index
joined-halves index = omega arith

pub upper_of-joined : (upper lower : ℕ) → lower < 2 ^ 32 → upper_of (joined_of upper lower) ≡ upper
upper_of-joined upper lower small = omega arith

-- an index with a lower upper half is lower
lower-by_upper : (index upper lower : ℕ) → upper_of index < upper → index ≤ joined_of upper lower
lower-by_upper index upper lower h = omega arith

-- an entry is the one of its key with the lower half of its index
pub entry_in-key_of : (e : BucketEntry) → entry_in (key_of e) (lower_of e.index) ≡ e
entry_in-key_of e = ap (λ index. let x : BucketEntry = record { rank = e.rank; index = index } in x) (joined-halves e.index)

pub key_of-entry_in : (key : GroupKey) (lower : ℕ) → lower < 2 ^ 32 → key_of (entry_in key lower) ≡ key
key_of-entry_in key lower small =
    ap (λ upper. let x : GroupKey = record { rank = key.rank; upper = upper } in x) (upper_of-joined key.upper lower small)

abbrev pub key_partial_cmp : GroupKey → GroupKey → Option Ordering
key_partial_cmp x y = partial_ordering_then (rank_partial_cmp x.rank y.rank) (Some (nat_cmp x.upper y.upper))

-- what `<` and `==` answer
pub is_lower_key-lt : (x y : GroupKey) → partial_lt key_partial_cmp x y ≡ is_lower_key x y
is_lower_key-lt x y = grind (arith, nat_tests)

abbrev pub is_same_key : GroupKey → GroupKey → Bool
is_same_key x y = ((x.rank.cost == y.rank.cost) && (x.rank.steps == y.rank.steps)) && (x.upper == y.upper)

is_lower_key-by_number : (x y : GroupKey) →
    is_lower_key x y ≡ by_number x.rank.cost y.rank.cost (by_number x.rank.steps y.rank.steps (nat_lt x.upper y.upper))
is_lower_key-by_number x y = grind (arith, nat_tests)

nat_lt-trans : (a b c : ℕ) → nat_lt a b ≡ true → nat_lt b c ≡ true → nat_lt a c ≡ true
nat_lt-trans a b c h k = grind (arith, nat_tests)

pub is_lower_key-trans : (x y z : GroupKey) → is_lower_key x y ≡ true → is_lower_key y z ≡ true → is_lower_key x z ≡ true
is_lower_key-trans x y z h k =
    rw (is_lower_key-by_number x z)
    (by_number-trans x.rank.cost y.rank.cost z.rank.cost _ _ _
    (by_number-trans x.rank.steps y.rank.steps z.rank.steps _ _ _ (nat_lt-trans x.upper y.upper z.upper))
    (sym (is_lower_key-by_number x y) ∙ h) (sym (is_lower_key-by_number y z) ∙ k))

-- of two keys that are not the same, one is lower
pub is_lower_key-other : (x y : GroupKey) → is_lower_key x y ≡ false → is_same_key x y ≡ false → is_lower_key y x ≡ true
is_lower_key-other x y h k = grind (arith, nat_tests)

-- an entry comes before those of a group with a higher key
comes_before-higher : (e : BucketEntry) (key : GroupKey) (lower : ℕ) → is_lower_key (key_of e) key ≡ true →
    comes_before e (entry_in key lower) ≡ true
comes_before-higher e key lower h = grind (arith, nat_tests, lower-by_upper)

pub IsBefore-higher : (e : BucketEntry) (g : GroupHeld) → is_lower_key (key_of e) g.key ≡ true →
    IsBefore e (entries_in g)
IsBefore-higher e g h =
    All-map (λ y. comes_before e y ≡ true) (entry_in g.key) g.lowers (λ k d inside. comes_before-higher e g.key _ h)

comes_before-in : (key : GroupKey) (lower other : ℕ) → lower ≤ other →
    comes_before (entry_in key lower) (entry_in key other) ≡ true
comes_before-in key lower other h = grind (arith, nat_tests)

-- the entry with the least lower half comes before those of its group
pub IsBefore-in : (key : GroupKey) (lower : ℕ) (lowers : List ℕ) → All (λ other. lower ≤ other) lowers →
    IsBefore (entry_in key lower) (map (entry_in key) lowers)
IsBefore-in key lower lowers least =
    All-map (λ y. comes_before (entry_in key lower) y ≡ true) (entry_in key) lowers
    (λ k d inside. comes_before-in key lower _ (least k d inside))

-- a key that is above another is above those below that
pub IsAbove-trans : (x y : GroupKey) (gs : List GroupHeld) → is_lower_key y x ≡ true → IsAbove y gs → IsAbove x gs
IsAbove-trans x y gs h all = λ k d inside. is_lower_key-trans _ y x (all k d inside) h
