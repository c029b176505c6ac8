-- Entries of an open list: their order, and lists of them up to the order.
use Rattle.std.proofs.Common.{◌≡◌, ◌⊎◌, ℕ, zero, suc, true, List, [], ◌∷◌, length, get_or, All, refl, ap, inl, inr, ⊎_elim, arith}
use Rattle.std.specs.Prelude.{Contains, map}
use Rattle.std.proofs.lemmas.Bool.Decides.{nat_tests}
use Rattle.std.proofs.lemmas.List.Elements.{All-contains, Contains-get_or}
use Rattle.openlist.specs.declared.entry.OpenEntry.{OpenEntry}
use Rattle.openlist.specs.OpenLists.{comes_first, IsFirst, entry_of}

pub in_front_of : {X : Type 0} (x : X) (xs : List X) → Contains (x ∷ xs) x
in_front_of x xs = (0, omega arith, refl)

pub in_rest : {X : Type 0} (x y : X) (xs : List X) → Contains xs x → Contains (y ∷ xs) x
in_rest x y xs (k, lt, at) = (suc k, omega arith, at)

pub first_or_rest : {X : Type 0} (x y : X) (xs : List X) → Contains (y ∷ xs) x → (y ≡ x) ⊎ Contains xs x
first_or_rest x y xs (zero, lt, at) = inl at
first_or_rest x y xs (suc k, lt, at) = inr (k, omega arith, at)

pub not_in_none : {X : Type 0} (x : X) (xs : List X) → xs ≡ [] → Contains xs x → ⊥
not_in_none x xs e h = let lt = h.1 in omega (arith, ap length e)

pub all_contained : {X : Type 0} (P : X → Type 0) (xs : List X) → ((x : X) → Contains xs x → P x) → All P xs
all_contained P xs h = λ k d lt. h (get_or xs k d) (Contains-get_or xs k d lt)

-- what is among all that a function makes of elements is made of one of them
pub contains_back : {X Y : Type 0} (f : X → Y) (xs : List X) (y : Y) → Contains (map f xs) y → (x : X) × Contains xs x × (f x ≡ y)
contains_back f [] y h = absurd (not_in_none y [] refl h)
contains_back f (x ∷ xs) y h = ⊎_elim (λ (p : f x ≡ y). (x, in_front_of x xs, p))
    (λ (p : Contains (map f xs) y). let r = contains_back f xs y p in (r.0, in_rest r.0 x xs r.1, r.2)) (first_or_rest y (f x) (map f xs) h)

-- the first of more is the first of fewer
pub first_of_fewer : (e : OpenEntry) (xs ys : List OpenEntry) → ((x : OpenEntry) → Contains xs x → Contains ys x) → IsFirst e ys → IsFirst e xs
first_of_fewer e xs ys sub first =
    all_contained (λ y. comes_first e y ≡ true) xs (λ x there. All-contains (λ y. comes_first e y ≡ true) ys x first (sub x there))

pub first_before : (e x : OpenEntry) (xs : List OpenEntry) → IsFirst e xs → Contains xs x → comes_first e x ≡ true
first_before e x xs first there = All-contains (λ y. comes_first e y ≡ true) xs x first there

numbers_both : (f c s i f' c' s' i' : ℕ)
    → comes_first (entry_of f c s i) (entry_of f' c' s' i') ≡ true → comes_first (entry_of f' c' s' i') (entry_of f c s i) ≡ true
    → (f ≡ f') × (c ≡ c') × (s ≡ s') × (i ≡ i')
numbers_both f c s i f' c' s' i' p q =
    (grind (arith, nat_tests), grind (arith, nat_tests), grind (arith, nat_tests), grind (arith, nat_tests))

-- of two entries one comes first, so that only an entry itself does both ways
pub first_both : (x y : OpenEntry) → comes_first x y ≡ true → comes_first y x ≡ true → x ≡ y
first_both x y p q =
    let e = numbers_both x.f x.rank.cost x.rank.steps x.index y.f y.rank.cost y.rank.steps y.index p q in
    λ j. record { f = e.0 j; rank = record { cost = e.1 j; steps = e.2 j }; index = e.3 j }
