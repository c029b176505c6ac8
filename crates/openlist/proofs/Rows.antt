-- Rows of buckets: the entries of all buckets in a row, and the first of them.
use Rattle.std.specs.Prelude.{Contains, IsPermutation, All}
use Rattle.std.proofs.Common.{◌≡◌, ◌≢◌, ℕ, zero, suc, ◌+◌, ◌-◌, ◌<◌, ◌≤◌, List, [], ◌∷◌, ◌++◌, length, map, get_or, set, refl, sym, ap, ◌∙◌, subst, arith, true}
use Rattle.std.proofs.Common.{below_more}
use Rattle.std.proofs.Math.Seq.{map-set_same}
use Rattle.std.proofs.lemmas.List.{get_or-map, get_or-set_other, length-map, length-set, map-set}
use Rattle.std.proofs.lemmas.List.Elements.{All-nil, All-cons, All-append, Contains-append_left, Contains-append_right}
use Rattle.std.proofs.lemmas.List.Sorted.{IsPermutation-append_left, IsPermutation-append_right, IsPermutation-middle, IsPermutation-sym, IsPermutation-trans}
use Rattle.openlist.specs.declared.entry.OpenEntry.{OpenEntry}
use Rattle.openlist.specs.declared.bucket_entry.BucketEntry.{BucketEntry}
use Rattle.openlist.specs.OpenLists.{comes_first, IsFirst}
use Rattle.openlist.specs.BucketLists.{BucketHeld, with_f, row_of, spares_of, row_entries, IsEmptyBelow, HasSameEntries, KeepsRoom}
use Rattle.openlist.proofs.Order.{lower_f-comes_first}

-- the entries of each bucket of a row
abbrev pub Row : Type 0
Row = List (List BucketEntry)

-- rows whose buckets have the same entries have the same entries in all
pub row_entries-same : (f : ℕ) (old new : Row) → HasSameEntries old new → row_entries f new ≡ row_entries f old
row_entries-same f [] [] same = refl
row_entries-same f [] (b ∷ later) same =
    let empty : b ≡ [] = same 0 in
    ap (λ v. map (with_f f) v ++ row_entries (f + 1) later) empty ∙ row_entries-same (f + 1) [] later (λ k. same (suc k))
row_entries-same f (a ∷ rest) [] same =
    let empty : [] ≡ a = same 0 in
    row_entries-same (f + 1) rest [] (λ k. same (suc k)) ∙ ap (λ v. map (with_f f) v ++ row_entries (f + 1) rest) empty
row_entries-same f (a ∷ rest) (b ∷ later) same =
    let first : b ≡ a = same 0 in
    ap (λ v. map (with_f f) v ++ row_entries (f + 1) later) first
    ∙ ap (λ v. map (with_f f) a ++ v) (row_entries-same (f + 1) rest later (λ k. same (suc k)))

-- a row has no entry if no bucket below its end has one
pub row_entries-empty : (f place : ℕ) (row : Row) → length row ≤ place → IsEmptyBelow place row → row_entries f row ≡ []
row_entries-empty f place [] long empty = refl
row_entries-empty f place (b ∷ later) long empty =
    ap (λ v. map (with_f f) v ++ row_entries (f + 1) later) (empty 0 (omega arith))
    ∙ row_entries-empty (f + 1) (place - 1) later (omega arith) (λ k below. empty (suc k) (omega arith))

-- the entries after one more was put into the bucket of f-value g
pub row_entries-push : (x : OpenEntry) (f place g : ℕ) (row : Row) (b : List BucketEntry) → place < length row →
    g ≡ f + place →
    IsPermutation (x ∷ map (with_f g) (get_or row place [])) (map (with_f g) b) →
    IsPermutation (x ∷ row_entries f row) (row_entries f (set row place b))
row_entries-push x f place g [] b inside at pushed = absurd (omega arith)
row_entries-push x f zero g (a ∷ rest) b inside at pushed =
    let same : g ≡ f = omega arith in
    IsPermutation-append_left (row_entries (f + 1) rest) (x ∷ map (with_f f) a) (map (with_f f) b) (rw same at pushed)
row_entries-push x f (suc place) g (a ∷ rest) b inside at pushed =
    IsPermutation-trans (x ∷ (map (with_f f) a ++ row_entries (f + 1) rest))
    (map (with_f f) a ++ x ∷ row_entries (f + 1) rest)
    (map (with_f f) a ++ row_entries (f + 1) (set rest place b))
    (IsPermutation-sym _ _ (IsPermutation-middle (map (with_f f) a) x (row_entries (f + 1) rest)))
    (IsPermutation-append_right (map (with_f f) a) (x ∷ row_entries (f + 1) rest) (row_entries (f + 1) (set rest place b))
    (row_entries-push x (f + 1) place g rest b (omega arith) (omega arith) pushed))

-- the entries after one was taken out of the bucket of f-value g
pub row_entries-pop : (x : OpenEntry) (f place g : ℕ) (row : Row) (b : List BucketEntry) → place < length row →
    g ≡ f + place →
    IsPermutation (map (with_f g) (get_or row place [])) (x ∷ map (with_f g) b) →
    IsPermutation (row_entries f row) (x ∷ row_entries f (set row place b))
row_entries-pop x f place g [] b inside at popped = absurd (omega arith)
row_entries-pop x f zero g (a ∷ rest) b inside at popped =
    let same : g ≡ f = omega arith in
    IsPermutation-append_left (row_entries (f + 1) rest) (map (with_f f) a) (x ∷ map (with_f f) b) (rw same at popped)
row_entries-pop x f (suc place) g (a ∷ rest) b inside at popped =
    IsPermutation-trans (map (with_f f) a ++ row_entries (f + 1) rest)
    (map (with_f f) a ++ x ∷ row_entries (f + 1) (set rest place b))
    (x ∷ (map (with_f f) a ++ row_entries (f + 1) (set rest place b)))
    (IsPermutation-append_right (map (with_f f) a) (row_entries (f + 1) rest) (x ∷ row_entries (f + 1) (set rest place b))
    (row_entries-pop x (f + 1) place g rest b (omega arith) (omega arith) popped))
    (IsPermutation-middle (map (with_f f) a) x (row_entries (f + 1) (set rest place b)))

bucket-later : (x : OpenEntry) (f : ℕ) (b : List BucketEntry) → x.f < f → IsFirst x (map (with_f f) b)
bucket-later x f [] lower = All-nil (λ y. comes_first x y ≡ true)
bucket-later x f (e ∷ es) lower =
    All-cons (λ y. comes_first x y ≡ true) (with_f f e) (map (with_f f) es) (lower_f-comes_first x (with_f f e) lower)
    (bucket-later x f es lower)

row-later : (x : OpenEntry) (f : ℕ) (row : Row) → x.f < f → IsFirst x (row_entries f row)
row-later x f [] lower = All-nil (λ y. comes_first x y ≡ true)
row-later x f (b ∷ later) lower =
    All-append (λ y. comes_first x y ≡ true) (map (with_f f) b) (row_entries (f + 1) later) (bucket-later x f b lower)
    (row-later x (f + 1) later (omega arith))

-- the first entry of the first bucket that has one is the first of the row
pub IsFirst-row : (x : OpenEntry) (f place g : ℕ) (row : Row) → g ≡ f + place → x.f ≡ g → IsEmptyBelow place row →
    IsFirst x (map (with_f g) (get_or row place [])) → IsFirst x (row_entries f row)
IsFirst-row x f place g [] at of_f empty first = All-nil (λ y. comes_first x y ≡ true)
IsFirst-row x f zero g (b ∷ later) at of_f empty first =
    let same : g ≡ f = omega arith in
    All-append (λ y. comes_first x y ≡ true) (map (with_f f) b) (row_entries (f + 1) later) (rw same at first)
    (row-later x (f + 1) later (omega arith))
IsFirst-row x f (suc place) g (b ∷ later) at of_f empty first =
    let none : b ≡ [] = empty 0 (omega arith) in
    subst (λ v. IsFirst x (map (with_f f) v ++ row_entries (f + 1) later)) (sym none)
    (IsFirst-row x (f + 1) place g later (omega arith) of_f (λ k below. empty (suc k) (omega arith)) first)

-- an entry of a lower f is before all of these
pub IsFirst-far : (x : OpenEntry) (f : ℕ) (xs : List OpenEntry) → x.f < f → All (λ y. f ≤ y.f) xs → IsFirst x xs
IsFirst-far x f xs lower far =
    λ k d inside. let later : f ≤ (get_or xs k d).f = far k d inside in lower_f-comes_first x (get_or xs k d) (omega arith)

-- an entry of a bucket is one of the row
pub Contains-row : (x : OpenEntry) (f place g : ℕ) (row : Row) → g ≡ f + place →
    Contains (map (with_f g) (get_or row place [])) x → Contains (row_entries f row) x
Contains-row x f place g [] at member = member
Contains-row x f zero g (b ∷ later) at member =
    let same : g ≡ f = omega arith in
    Contains-append_left (map (with_f f) b) (row_entries (f + 1) later) x (rw same at member)
Contains-row x f (suc place) g (b ∷ later) at member =
    Contains-append_right (map (with_f f) b) (row_entries (f + 1) later) x
    (Contains-row x (f + 1) place g later (omega arith) member)

-- an empty bucket at the end changes no bucket
pub HasSameEntries-more : (buckets : List BucketHeld) (b : BucketHeld) → b.entries ≡ [] →
    HasSameEntries (row_of buckets) (row_of (buckets ++ b ∷ []))
HasSameEntries-more [] b empty zero = empty
HasSameEntries-more [] b empty (suc k) = refl
HasSameEntries-more (a ∷ rest) b empty zero = refl
HasSameEntries-more (a ∷ rest) b empty (suc k) = HasSameEntries-more rest b empty k

pub KeepsRoom-more : (buckets : List BucketHeld) (b : BucketHeld) →
    KeepsRoom (spares_of buckets) (spares_of (buckets ++ b ∷ []))
KeepsRoom-more [] b zero = omega arith
KeepsRoom-more [] b (suc k) = omega arith
KeepsRoom-more (a ∷ rest) b zero = omega arith
KeepsRoom-more (a ∷ rest) b (suc k) = KeepsRoom-more rest b k

-- what a bucket of the row holds
pub get_or-row_of : (buckets : List BucketHeld) (place : ℕ) (b : BucketHeld) → place < length buckets →
    b ≡ get_or buckets place b → get_or (row_of buckets) place [] ≡ b.entries
get_or-row_of buckets place b inside is =
    get_or-map (λ x. x.entries) buckets place b [] inside ∙ ap (λ x. x.entries) (sym is)

-- a bucket that keeps its entries changes none of the row's
pub row_of-set : (buckets : List BucketHeld) (place : ℕ) (old new : BucketHeld) → old ≡ get_or buckets place old →
    new.entries ≡ old.entries → row_of (set buckets place new) ≡ row_of buckets
row_of-set buckets place old new is same =
    map-set_same (λ x. x.entries) buckets place new old (same ∙ ap (λ x. x.entries) is)

-- one more bucket without entries
pub empty_more : (buckets : List BucketHeld) (from place : ℕ) (b : BucketHeld) → place < length buckets →
    b ≡ get_or buckets place b → b.entries ≡ [] →
    ((p : ℕ) → from ≤ p → p < place → get_or (row_of buckets) p [] ≡ []) →
    (p : ℕ) → from ≤ p → p < place + 1 → get_or (row_of buckets) p [] ≡ []
empty_more buckets from place b inside is empty before p above below =
    below_more (λ q. from ≤ q → get_or (row_of buckets) q [] ≡ []) place (λ q under over. before q over under)
    (λ over. get_or-row_of buckets place b inside is ∙ empty) p below above

-- a bucket that is changed changes no other bucket
pub row_of-set_other : (buckets : List BucketHeld) (place f : ℕ) (new : BucketHeld) → f ≢ place →
    get_or (row_of (set buckets place new)) f [] ≡ get_or (row_of buckets) f []
row_of-set_other buckets place f new other =
    rw (map-set (λ b. b.entries) buckets place new) (get_or-set_other (row_of buckets) place f new.entries [] other)

-- one entry more in a bucket is one entry more in the row
pub row_entries-put : (x : OpenEntry) (before : Row) (buckets : List BucketHeld) (place : ℕ) (old new : BucketHeld) →
    HasSameEntries before (row_of buckets) → place < length buckets → old ≡ get_or buckets place old → place ≡ x.f →
    IsPermutation (x ∷ map (with_f x.f) old.entries) (map (with_f x.f) new.entries) →
    IsPermutation (x ∷ row_entries 0 before) (row_entries 0 (row_of (set buckets place new)))
row_entries-put x before buckets place old new same there is at pushed =
    rw (map-set (λ b. b.entries) buckets place new, ← row_entries-same 0 before (row_of buckets) same)
    (row_entries-push x 0 place x.f (row_of buckets) new.entries (rw length-map there) (omega arith)
    (rw (get_or-row_of buckets place old there is) pushed))

-- an entry that leaves a bucket leaves the row
pub row_entries-take : (x : OpenEntry) (buckets : List BucketHeld) (place : ℕ) (old new : BucketHeld) →
    place < length buckets → old ≡ get_or buckets place old →
    IsPermutation (map (with_f place) old.entries) (x ∷ map (with_f place) new.entries) →
    IsPermutation (row_entries 0 (row_of buckets)) (x ∷ row_entries 0 (row_of (set buckets place new)))
row_entries-take x buckets place old new there is popped =
    rw (map-set (λ b. b.entries) buckets place new)
    (row_entries-pop x 0 place place (row_of buckets) new.entries (rw length-map there) (omega arith)
    (rw (get_or-row_of buckets place old there is) popped))

pub length-row_of-set : (buckets : List BucketHeld) (place : ℕ) (new : BucketHeld) →
    length (row_of (set buckets place new)) ≡ length (row_of buckets)
length-row_of-set buckets place new =
    ap length (map-set (λ b. b.entries) buckets place new) ∙ length-set (row_of buckets) place new.entries
