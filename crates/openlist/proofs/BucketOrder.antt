-- Entries of one bucket in their order: those of groups, and the heap beside them.
use Rattle.std.specs.Prelude.{Contains, IsPermutation, true, false, Option, None, Some, IfNone}
use Rattle.std.specs.Ordering.{nat_cmp, ordering_then, partial_ordering_then, partial_le, is_lt}
use Rattle.std.specs.declared.cmp.Ordering.{Ordering}
use Rattle.std.specs.declared.cmp.Reverse.{Reverse}
use Rattle.std.specs.BinaryHeap.{IsUpperBound}
use Rattle.std.proofs.Common.{◌≡◌, ℕ, ◌<◌, ◌≢◌, List, [], ◌∷◌, ◌++◌, length, map, get_or, arith, refl, sym, ap, subst}
use Rattle.std.proofs.lemmas.Bool.{false≢true}
use Rattle.std.proofs.lemmas.Bool.Decides.{nat_tests}
use Rattle.std.proofs.lemmas.List.Elements.{All-append, All-cons, All-contains, All-nil, All-tail, Contains-append_right}
use Rattle.std.proofs.lemmas.List.Sorted.{IsPermutation-append_right, IsPermutation-middle, IsPermutation-sym, IsPermutation-trans}
use Rattle.openlist.specs.declared.entry.Rank.{Rank}
use Rattle.openlist.specs.declared.bucket_entry.BucketEntry.{BucketEntry}
use Rattle.openlist.specs.BucketLists.{with_f}
use Rattle.openlist.specs.OpenLists.{comes_first, IsFirst}
use Rattle.openlist.specs.BucketOrder.{comes_before, IsBefore}
use Rattle.openlist.proofs.Order.{comes_first-trans, rank_cmp}

-- what the derived comparison of a bucket's entries answers
abbrev pub bucket_cmp : BucketEntry → BucketEntry → Ordering
bucket_cmp x y = ordering_then (rank_cmp x.rank y.rank) (nat_cmp x.index y.index)

abbrev pub rank_partial_cmp : Rank → Rank → Option Ordering
rank_partial_cmp x y = partial_ordering_then (Some (nat_cmp x.cost y.cost)) (Some (nat_cmp x.steps y.steps))

abbrev pub bucket_partial_cmp : BucketEntry → BucketEntry → Option Ordering
bucket_partial_cmp x y = partial_ordering_then (rank_partial_cmp x.rank y.rank) (Some (nat_cmp x.index y.index))

-- what `<=` answers
pub comes_before-le : (x y : BucketEntry) → partial_le bucket_partial_cmp x y ≡ comes_before x y
comes_before-le x y = grind (arith, nat_tests)

not_less-comes_before : (x y : BucketEntry) → is_lt (bucket_cmp y x) ≡ false → comes_before x y ≡ true
not_less-comes_before x y h = grind (arith, nat_tests)

with_f-comes_first : (f : ℕ) (x y : BucketEntry) → comes_before x y ≡ true →
    comes_first (with_f f x) (with_f f y) ≡ true
with_f-comes_first f x y h = grind (arith, nat_tests)

comes_before-trans : (x y z : BucketEntry) → comes_before x y ≡ true → comes_before y z ≡ true → comes_before x z ≡ true
comes_before-trans x y z h k = comes_first-trans (with_f 0 x) (with_f 0 y) (with_f 0 z) h k

pub comes_before-other : (x y : BucketEntry) → comes_before x y ≡ false → comes_before y x ≡ true
comes_before-other x y h = grind (arith, nat_tests)

-- an entry comes before some entries if it comes before one that comes before them
IsBefore-trans : (x y : BucketEntry) (ys : List BucketEntry) → comes_before x y ≡ true → IsBefore y ys → IsBefore x ys
IsBefore-trans x y ys h all = λ k d inside. comes_before-trans x y (get_or ys k d) h (all k d inside)

-- what the greatest element of a heap of reversed entries is
IsBefore-heap : (r : Reverse BucketEntry) (heap : List (Reverse BucketEntry)) →
    IsUpperBound (λ a b. bucket_cmp b.0 a.0) r heap → IsBefore r.0 (map (λ s. s.0) heap)
IsBefore-heap r [] h = All-nil (λ z. comes_before r.0 z ≡ true)
IsBefore-heap r (s ∷ ss) h =
    All-cons (λ z. comes_before r.0 z ≡ true) s.0 (map (λ t. t.0) ss) (not_less-comes_before r.0 s.0 h.0)
    (IsBefore-heap r ss h.1)

-- an entry that comes before entries of which one comes before the heap's greatest element comes before the heap
pub group_before_heap : (e first : BucketEntry) (least : Reverse BucketEntry) (grouped : List BucketEntry)
    (heap : List (Reverse BucketEntry)) → IsBefore e grouped → Contains grouped first →
    comes_before first least.0 ≡ true → IsUpperBound (λ a b. bucket_cmp b.0 a.0) least heap →
    IsBefore e (map (λ s. s.0) heap)
group_before_heap e first least grouped heap before member h greatest =
    let here : comes_before e first ≡ true = All-contains (λ z. comes_before e z ≡ true) grouped first before member in
    IsBefore-trans e first (map (λ s. s.0) heap) here
    (IsBefore-trans first least.0 (map (λ s. s.0) heap) h (IsBefore-heap least heap greatest))

-- the greatest element of a heap comes before entries if an element of the heap comes before the first of them
pub heap_before_group : (first : BucketEntry) (least r : Reverse BucketEntry) (grouped : List BucketEntry)
    (heap : List (Reverse BucketEntry)) → IsBefore first grouped → least ≡ get_or heap 0 least → 0 < length heap →
    comes_before least.0 first ≡ true → IsUpperBound (λ a b. bucket_cmp b.0 a.0) r heap → IsBefore r.0 grouped
heap_before_group first least r grouped [] before top filled h greatest = absurd (omega arith)
heap_before_group first least r grouped (s ∷ ss) before top filled h greatest =
    IsBefore-trans r.0 first grouped
    (comes_before-trans r.0 s.0 first (not_less-comes_before r.0 s.0 greatest.0)
    (subst (λ t. comes_before t.0 first ≡ true) top h)) before

-- an entry of a bucket that comes before some entries comes first among them at each f-value
IsFirst-before : (f : ℕ) (x : BucketEntry) (ys : List BucketEntry) → IsBefore x ys →
    IsFirst (with_f f x) (map (with_f f) ys)
IsFirst-before f x [] before = All-nil (λ z. comes_first (with_f f x) z ≡ true)
IsFirst-before f x (y ∷ ys) before =
    All-cons (λ z. comes_first (with_f f x) z ≡ true) (with_f f y) (map (with_f f) ys)
    (with_f-comes_first f x y (before 0 y (omega arith)))
    (IsFirst-before f x ys (All-tail (λ z. comes_before x z ≡ true) y ys before))

-- the first entry of a bucket, if it is in a group and if it is in the heap
pub IsFirst-group : (f : ℕ) (e : BucketEntry) (grouped heap : List BucketEntry) → IsBefore e grouped → IsBefore e heap →
    IsFirst (with_f f e) (map (with_f f) (grouped ++ heap))
IsFirst-group f e grouped heap before before' =
    IsFirst-before f e (grouped ++ heap) (All-append (λ z. comes_before e z ≡ true) grouped heap before before')

pub IsFirst-heap : (f : ℕ) (r : Reverse BucketEntry) (grouped : List BucketEntry) (heap : List (Reverse BucketEntry)) →
    IsBefore r.0 grouped → IsUpperBound (λ a b. bucket_cmp b.0 a.0) r heap →
    IsFirst (with_f f r.0) (map (with_f f) (grouped ++ map (λ s. s.0) heap))
IsFirst-heap f r grouped heap before greatest =
    IsFirst-group f r.0 grouped (map (λ s. s.0) heap) before (IsBefore-heap r heap greatest)

-- what holds by a clause of the value if there is none
pub if_none_from : {X P : Type 0} (r : Option X) → P → IfNone r P
if_none_from None p = p
if_none_from (Some x) p = tt

pub none_then : {X P Q : Type 0} (r : Option X) → IfNone r P → (P → Q) → IfNone r Q
none_then None p f = f p
none_then (Some x) p f = tt

-- the first of two lists has no element if both together have none
pub no_element-first : {X : Type 0} (xs ys : List X) → xs ++ ys ≡ [] → xs ≡ []
no_element-first [] ys none = refl
no_element-first (x ∷ xs) ys none = cc

-- a bucket has no entry if its heap has none and would have one if the groups had
pub no_entry_in_both : (grouped : List BucketEntry) (heap : List (Reverse BucketEntry)) (n : ℕ) → n ≡ length heap →
    (grouped ≢ [] → 0 < n) → (0 < n → false ≡ true) → grouped ++ map (λ s. s.0) heap ≡ []
no_entry_in_both [] [] n long filled none = refl
no_entry_in_both [] (s ∷ ss) n long filled none = absurd (false≢true (none (omega arith)))
no_entry_in_both (e ∷ es) heap n long filled none = absurd (false≢true (none (filled (λ same. cc))))

-- the first element of a heap is an entry of the bucket
pub Contains-heap : (f : ℕ) (r : Reverse BucketEntry) (grouped : List BucketEntry) (heap : List (Reverse BucketEntry)) →
    0 < length heap → r ≡ get_or heap 0 r → Contains (map (with_f f) (grouped ++ map (λ s. s.0) heap)) (with_f f r.0)
Contains-heap f r [] [] filled is = absurd (omega arith)
Contains-heap f r [] (s ∷ ss) filled is = (0, omega arith, ap (λ t. with_f f t.0) (sym is))
Contains-heap f r (g ∷ gs) heap filled is =
    Contains-append_right (with_f f g ∷ []) (map (with_f f) (gs ++ map (λ s. s.0) heap)) (with_f f r.0)
    (Contains-heap f r gs heap filled is)

-- an element more, and an element fewer, in the second of two lists
pub IsPermutation-pushed_beside : {X : Type 0} (x : X) (xs ys zs : List X) → IsPermutation (x ∷ ys) zs →
    IsPermutation (x ∷ (xs ++ ys)) (xs ++ zs)
IsPermutation-pushed_beside x xs ys zs pushed =
    IsPermutation-trans (x ∷ (xs ++ ys)) (xs ++ x ∷ ys) (xs ++ zs)
    (IsPermutation-sym (xs ++ x ∷ ys) (x ∷ (xs ++ ys)) (IsPermutation-middle xs x ys))
    (IsPermutation-append_right xs (x ∷ ys) zs pushed)

pub IsPermutation-popped_beside : {X : Type 0} (x : X) (xs ys zs : List X) → IsPermutation ys (x ∷ zs) →
    IsPermutation (xs ++ ys) (x ∷ (xs ++ zs))
IsPermutation-popped_beside x xs ys zs popped =
    IsPermutation-trans (xs ++ ys) (xs ++ x ∷ zs) (x ∷ (xs ++ zs)) (IsPermutation-append_right xs ys (x ∷ zs) popped)
    (IsPermutation-middle xs x zs)
