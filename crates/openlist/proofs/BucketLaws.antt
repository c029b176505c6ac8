-- An open list as buckets: what its entries, its first entry and its room are after a change of the row or of the heap of
-- great f.
use Rattle.std.specs.Prelude.{Contains, IsPermutation, All, Option, Some, None, IfSome, IfNone, Result, Ok, Err, OnOk, OnErr, nat_le, filter}
use Rattle.std.specs.declared.alloc.AllocError.{AllocError}
use Rattle.std.proofs.Common.{◌≡◌, ◌≢◌, ℕ, ◌+◌, ◌<◌, ◌≤◌, List, [], ◌∷◌, ◌++◌, length, map, get_or, set, sym, ap, ◌∙◌, subst, arith, cond, true}
use Rattle.std.proofs.Math.Logic.{⊎_elim}
use Rattle.std.proofs.lemmas.Bool.{cases_lt}
use Rattle.std.proofs.lemmas.Bool.Decides.{nat_tests}
use Rattle.std.proofs.lemmas.List.{length-map}
use Rattle.std.proofs.lemmas.List.Elements.{All-append, All-cons, All-nil, All-tail, Contains-append_left}
use Rattle.std.proofs.lemmas.List.Sorted.{All-permutation, IsPermutation-refl}
use Rattle.std.proofs.lemmas.List.Sums.{length-filter, sum_by-cons}
use Rattle.openlist.specs.declared.entry.OpenEntry.{OpenEntry}
use Rattle.openlist.specs.declared.row.TheConstants.{FAR}
use Rattle.openlist.specs.Heaps.{Held, HasRoomFor}
use Rattle.openlist.specs.OpenLists.{comes_first, IsFirst}
use Rattle.openlist.specs.BucketLists.{BucketHeld, far_count, HasSameEntries, held_of, IsEmptyBelow, IsInOrder, row_entries, row_of, with_f}
use Rattle.openlist.proofs.Rows.{Contains-row, get_or-row_of, IsFirst-far, IsFirst-row, length-row_of-set, row_entries-empty, row_entries-same, row_of-set_other, Row}

-- what holds by two clauses of the value in a `Some`
pub some_both : {X : Type 0} (r : Option X) {P Q S : X → Type 0} → IfSome r P → IfSome r Q → ((x : X) → P x → Q x → S x) →
    IfSome r S
some_both None p q both = tt
some_both (Some x) p q both = both x p q

-- what holds anyway holds if there is an error
pub on_err_from : {T E P : Type 0} (r : Result T E) → P → OnErr r P
on_err_from (Ok x) p = tt
on_err_from (Err e) p = p

-- rows with the same entries, beside the same entries of great f
pub entries_beside-same : (before after : Row) (far far' : List OpenEntry) → HasSameEntries before after → far' ≡ far →
    IsPermutation (row_entries 0 before ++ far) (row_entries 0 after ++ far')
entries_beside-same before after far far' same same_far =
    rw (row_entries-same 0 before after same, same_far) (IsPermutation-refl (row_entries 0 before ++ far))

-- a push among the entries of great f, and a pop, leave only such entries there
pub far_after_push : (r : Result (Unit {0}) AllocError) (x : OpenEntry) (far far' : List OpenEntry) →
    OnOk r (IsPermutation (x ∷ far) far') → OnErr r (IsPermutation far far') → FAR ≤ x.f →
    All (λ e. FAR ≤ e.f) far → All (λ e. FAR ≤ e.f) far'
far_after_push (Ok u) x far far' pushed unchanged high all =
    All-permutation (λ e. FAR ≤ e.f) (x ∷ far) far' pushed (All-cons (λ e. FAR ≤ e.f) x far high all)
far_after_push (Err e) x far far' pushed unchanged high all = All-permutation (λ y. FAR ≤ y.f) far far' unchanged all

pub far_after_pop : (r : Option OpenEntry) (far far' : List OpenEntry) → IfSome r (λ e. IsPermutation far (e ∷ far')) →
    IfNone r (far' ≡ []) → All (λ e. FAR ≤ e.f) far → All (λ e. FAR ≤ e.f) far'
far_after_pop (Some x) far far' rest empty all =
    All-tail (λ e. FAR ≤ e.f) x far' (All-permutation (λ e. FAR ≤ e.f) far (x ∷ far') rest all)
far_after_pop None far far' rest empty all = subst (All (λ e. FAR ≤ e.f)) (sym empty) (All-nil (λ e. FAR ≤ e.f))

-- no bucket below the place has an entry, nor one from there to where a look for one in the row's slice ends
pub empty_up_to : (least place : ℕ) (buckets slice : List BucketHeld) → slice ≡ buckets →
    IsEmptyBelow least (row_of buckets) →
    ((p : ℕ) → least ≤ p → p < place → get_or (row_of slice) p [] ≡ []) → IsEmptyBelow place (row_of buckets)
empty_up_to least place buckets slice same below above = λ p under.
    ⊎_elim (λ low. below p low) (λ high. rw same at (above p high under)) (cases_lt p least)

-- a change of the first bucket that has an entry, where the place moves up to it
pub IsInOrder-set : (buckets : List BucketHeld) (least place : ℕ) (new : BucketHeld) (far : Held) →
    IsEmptyBelow place (row_of buckets) → IsInOrder (held_of buckets least far) →
    IsInOrder (held_of (set buckets place new) place far)
IsInOrder-set buckets least place new far empty in_order = record {
  near = rw (length-row_of-set buckets place new) in_order.near;
  below = λ p under.
      let other : p ≢ place = omega arith in
      row_of-set_other buckets place p new other ∙ empty p under;
  far = in_order.far;
}

-- the first entry of the first bucket that has one is the first of all
pub IsFirst-near : (x : OpenEntry) (buckets : List BucketHeld) (place : ℕ) (b : BucketHeld) (far : List OpenEntry) →
    place < length buckets → b ≡ get_or buckets place b → length (row_of buckets) ≤ FAR →
    IsEmptyBelow place (row_of buckets) → All (λ e. FAR ≤ e.f) far → x.f ≡ place →
    IsFirst x (map (with_f place) b.entries) → IsFirst x (row_entries 0 (row_of buckets) ++ far)
IsFirst-near x buckets place b far there is near empty high of_f first =
    All-append (λ y. comes_first x y ≡ true) (row_entries 0 (row_of buckets)) far
    (IsFirst-row x 0 place place (row_of buckets) (omega arith) of_f empty
    (rw (get_or-row_of buckets place b there is) first))
    (IsFirst-far x FAR far (omega (arith, length-map buckets (λ y. y.entries))) high)

pub Contains-near : (x : OpenEntry) (buckets : List BucketHeld) (place : ℕ) (b : BucketHeld) (far : List OpenEntry) →
    place < length buckets → b ≡ get_or buckets place b → Contains (map (with_f place) b.entries) x →
    Contains (row_entries 0 (row_of buckets) ++ far) x
Contains-near x buckets place b far there is member =
    Contains-append_left (row_entries 0 (row_of buckets)) far x
    (Contains-row x 0 place place (row_of buckets) (omega arith) (rw (get_or-row_of buckets place b there is) member))

-- where no bucket has an entry, the entries are those of great f
pub only_far : (buckets : List BucketHeld) (place : ℕ) (far : List OpenEntry) → length buckets ≤ place →
    IsEmptyBelow place (row_of buckets) → row_entries 0 (row_of buckets) ++ far ≡ far
only_far buckets place far long empty =
    ap (λ row. row ++ far) (row_entries-empty 0 place (row_of buckets) (rw length-map long) empty)

nat_le-true : (a b : ℕ) → a ≤ b → nat_le a b ≡ true
nat_le-true a b h = grind (arith, nat_tests)

-- room in the heap of great f, as the heap itself counts it
pub HasRoomFor-far : (far : Held) (fs : List ℕ) → far_count fs ≤ far.spare →
    HasRoomFor far (filter (λ f. nat_le FAR f) fs)
unfolding HasRoomFor
HasRoomFor-far far fs room = rw (length-filter (λ f. nat_le FAR f) fs) room

pub HasRoomFor-far_cons : (far : Held) (f : ℕ) (fs : List ℕ) → FAR ≤ f → far_count (f ∷ fs) ≤ far.spare →
    HasRoomFor far (f ∷ filter (λ g. nat_le FAR g) fs)
unfolding HasRoomFor
HasRoomFor-far_cons far f fs high room =
    let one : far_count (f ∷ fs) ≡ 1 + far_count fs =
    sum_by-cons (λ g. cond (nat_le FAR g) 1 0) f fs
    ∙ ap (λ b. cond b 1 0 + far_count fs) (nat_le-true FAR f high) in
    omega (arith, length-filter (λ g. nat_le FAR g) fs)

pub far_count-from_room : (far : Held) (fs : List ℕ) → HasRoomFor far (filter (λ f. nat_le FAR f) fs) →
    far_count fs ≤ far.spare
unfolding HasRoomFor
far_count-from_room far fs room = rw (length-filter (λ f. nat_le FAR f) fs) at room
