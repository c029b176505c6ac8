-- Room in buckets for entries of some f-values.
use Rattle.std.proofs.Common.{◌≡◌, ◌≢◌, ℕ, ◌+◌, ◌<◌, ◌≤◌, ◌==◌, List, ◌∷◌, length, map, get_or, set, take, refl, sym, ap, ◌∙◌, subst, inl, inr, ◌⊎◌, arith, cond, min, ◌-◌, ◌^◌}
use Rattle.std.proofs.Math.Logic.{⊎_elim}
use Rattle.std.proofs.Math.Nat.{lt_of_lt_of_le}
use Rattle.std.proofs.lemmas.List.Elements.{All-more}
use Rattle.std.proofs.lemmas.Bool.{cases_eq, cases_lt, eq-eqb, ne_eqb}
use Rattle.std.proofs.lemmas.List.{get_or_past, get_or-map, get_or-set_same, get_or-set_other, map-set, length-map, length-take}
use Rattle.std.proofs.lemmas.List.Sums.{count_by_more_no, count_by_more_yes, count_by-le-length, sum_by-cons}
use Rattle.openlist.specs.declared.row.TheConstants.{FAR}
use Rattle.openlist.specs.BucketLists.{BucketHeld, count_of, count_by-tail, HasBuckets, HasRoomNear, KeepsRoom, spares_of}

-- an f-value that has no bucket takes no room in one
pub HasRoomNear-far : (spares fs : List ℕ) (k : ℕ) → k < length fs → FAR ≤ get_or fs k 0 →
    HasRoomNear spares (take k fs) → HasRoomNear spares (take (k + 1) fs)
HasRoomNear-far spares fs k inside far room = λ f near.
    let other : get_or fs k 0 ≢ f = omega arith in
    rw (count_by_more_no (λ g. g == f) fs k 0 inside (ne_eqb _ _ other)) (room f near)

-- how often an f-value stands in the beginning of a list
pub count_of-take : (f : ℕ) (fs : List ℕ) (k : ℕ) → count_of f (take k fs) ≤ k
count_of-take f fs k = omega (arith, count_by-le-length (λ g. g == f) (take k fs), length-take k fs)

-- the bucket of the next f-value has room for it and for those of its f-value before it
pub HasRoomNear-more : (value : BucketHeld → ℕ) (buckets : List BucketHeld) (fs : List ℕ) (k place : ℕ) (new : BucketHeld) →
    k < length fs → place ≡ get_or fs k 0 → place < length buckets → count_of place (take k fs) + 1 ≤ value new →
    HasRoomNear (map value buckets) (take k fs) → HasRoomNear (map value (set buckets place new)) (take (k + 1) fs)
HasRoomNear-more value buckets fs k place new inside at there enough room = λ f near.
    rw (map-set value buckets place new)
    (⊎_elim
    (λ yes.
    let same : place ≡ f = at ∙ yes in
    rw (
      count_by_more_yes (λ g. g == f) fs k 0 inside (eq-eqb _ _ yes),
      ← same,
      get_or-set_same (map value buckets) place (value new) 0 (rw length-map there),
    )
    enough)
    (λ no.
    let other : f ≢ place = λ e. no (sym at ∙ sym e) in
    rw (
      count_by_more_no (λ g. g == f) fs k 0 inside (ne_eqb _ _ no),
      get_or-set_other (map value buckets) place f (value new) 0 other,
    )
    (room f near))
    (cases_eq (get_or fs k 0) f))

-- a bucket that is asked for one entry more has been asked for enough
pub asked-more : (buckets : List BucketHeld) (fs : List ℕ) (k place : ℕ) (old : BucketHeld) → k < length fs →
    length fs < 2 ^ 64 → place < length buckets → place < FAR → old ≡ get_or buckets place old →
    HasRoomNear (map (λ b. b.asked) buckets) (take k fs) →
    count_of place (take k fs) + 1 ≤ min (old.asked + 1) (2 ^ 64 - 1)
asked-more buckets fs k place old inside fits there near is room =
    let same : get_or (map (λ b. b.asked) buckets) place 0 ≡ old.asked =
    get_or-map (λ b. b.asked) buckets place old 0 there ∙ ap (λ b. b.asked) (sym is) in
    let before : count_of place (take k fs) ≤ get_or (map (λ b. b.asked) buckets) place 0 = room place near in
    omega (arith, count_of-take place fs k)

-- the next f-value of the list has a bucket in a row that is no shorter
pub HasBuckets-more : (fs : List ℕ) (k len longer : ℕ) → k < length fs → len ≤ longer →
    (get_or fs k 0 < FAR → get_or fs k 0 < longer) → HasBuckets (take k fs) len → HasBuckets (take (k + 1) fs) longer
HasBuckets-more fs k len longer inside grown here before =
    All-more (λ f. f < FAR → f < longer) fs k 0 inside
    (λ i d within near. lt_of_lt_of_le (before i d within near) grown) here

count_of-same : (f g : ℕ) (fs : List ℕ) → g ≡ f → count_of f (g ∷ fs) ≡ 1 + count_of f fs
count_of-same f g fs same =
    sum_by-cons (λ h. cond (h == f) 1 0) g fs ∙ ap (λ b. cond b 1 0 + count_of f fs) (eq-eqb g f same)

-- a bucket that has room for an entry has some room
pub has_spare : (spares fs : List ℕ) (place : ℕ) → place < FAR → HasRoomNear spares (place ∷ fs) →
    0 < get_or spares place 0
has_spare spares fs place near room =
    let enough : count_of place (place ∷ fs) ≤ get_or spares place 0 = room place near in
    omega (arith, count_of-same place place fs refl)

-- a bucket that has room for an entry is in the row
pub has_bucket : (spares fs : List ℕ) (place : ℕ) → place < FAR → HasRoomNear spares (place ∷ fs) → place < length spares
has_bucket spares fs place near room =
    let some : 0 < get_or spares place 0 = has_spare spares fs place near room in
    ⊎_elim (λ there. there) (λ past. absurd (omega (arith, get_or_past spares place 0 past))) (cases_lt place (length spares))

pub get_or-spares_of : (buckets : List BucketHeld) (place : ℕ) (b : BucketHeld) → place < length buckets →
    b ≡ get_or buckets place b → get_or (spares_of buckets) place 0 ≡ b.spare
get_or-spares_of buckets place b there is =
    get_or-map (λ x. x.spare) buckets place b 0 there ∙ ap (λ x. x.spare) (sym is)

-- the room after a bucket was changed: its own, or that of another bucket
spare_after : (buckets : List BucketHeld) (place f : ℕ) (new : BucketHeld) → place < length buckets →
    ((place ≡ f) × (get_or (spares_of (set buckets place new)) f 0 ≡ new.spare))
    ⊎ ((place ≢ f) × (get_or (spares_of (set buckets place new)) f 0 ≡ get_or (spares_of buckets) f 0))
spare_after buckets place f new there =
    rw (map-set (λ x. x.spare) buckets place new)
    (⊎_elim
    (λ yes. inl (
      yes,
      subst (λ g. get_or (set (spares_of buckets) place new.spare) g 0 ≡ new.spare) yes
          (get_or-set_same (spares_of buckets) place new.spare 0 (rw length-map there)),
    ))
    (λ no. inr (no, get_or-set_other (spares_of buckets) place f new.spare 0 (λ e. no (sym e))))
    (cases_eq place f))

-- a bucket that loses no room leaves room for as many entries
pub HasRoomNear-set : (buckets : List BucketHeld) (place : ℕ) (old new : BucketHeld) (fs : List ℕ) →
    place < length buckets → old ≡ get_or buckets place old → old.spare ≤ new.spare →
    HasRoomNear (spares_of buckets) fs → HasRoomNear (spares_of (set buckets place new)) fs
HasRoomNear-set buckets place old new fs there is kept room = λ f near.
    let before : count_of f fs ≤ get_or (spares_of buckets) f 0 = room f near in
    ⊎_elim
    (λ (own_place, after).
    let own : get_or (spares_of buckets) f 0 ≡ old.spare =
    subst (λ g. get_or (spares_of buckets) g 0 ≡ old.spare) own_place (get_or-spares_of buckets place old there is) in
    omega arith)
    (λ (other_place, after). omega arith)
    (spare_after buckets place f new there)

-- room for an entry of a bucket and others is room for the others once the entry is there
pub HasRoomNear-push : (before : List ℕ) (buckets : List BucketHeld) (place : ℕ) (old new : BucketHeld) (fs : List ℕ) →
    KeepsRoom before (spares_of buckets) → place < length buckets → old ≡ get_or buckets place old →
    old.spare ≤ new.spare + 1 → HasRoomNear before (place ∷ fs) → HasRoomNear (spares_of (set buckets place new)) fs
HasRoomNear-push before buckets place old new fs keeps there is kept room = λ f near.
    let enough : count_of f (place ∷ fs) ≤ get_or before f 0 = room f near in
    let grown : get_or before f 0 ≤ get_or (spares_of buckets) f 0 = keeps f in
    let tail : count_of f fs ≤ count_of f (place ∷ fs) = count_by-tail (λ g. g == f) place fs in
    ⊎_elim
    (λ (own_place, after).
    let own : get_or (spares_of buckets) f 0 ≡ old.spare =
    subst (λ g. get_or (spares_of buckets) g 0 ≡ old.spare) own_place (get_or-spares_of buckets place old there is) in
    omega (arith, count_of-same f place fs own_place))
    (λ (other_place, after). omega arith)
    (spare_after buckets place f new there)
