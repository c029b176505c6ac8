-- The order of entries: it is a total order, and what the comparisons of entries answer is that order.
use Rattle.std.specs.Prelude.{◌==◌, nat_lt, nat_le, Contains, IsPermutation, ◌⊎◌}
use Rattle.std.specs.Ordering.{nat_cmp, ordering_then, is_lt}
use Rattle.std.specs.declared.cmp.Ordering.{Ordering}
use Rattle.std.specs.declared.cmp.Reverse.{Reverse}
use Rattle.std.specs.BinaryHeap.{IsUpperBound}
use Rattle.std.proofs.Common.{◌≡◌, ℕ, ◌<◌, ◌≤◌, Bool, true, false, ◌&&◌, ◌||◌, List, [], ◌∷◌, map, arith, sym, ap, ◌∙◌, inl, inr}
use Rattle.std.proofs.Math.Logic.{⊎_elim}
use Rattle.std.proofs.lemmas.Bool.{cases_Bool}
use Rattle.std.proofs.lemmas.Bool.Decides.{nat_tests}
use Rattle.std.proofs.lemmas.List.Elements.{All-nil, All-cons, All-contains}
use Rattle.std.proofs.lemmas.List.Sorted.{All-permutation}
use Rattle.openlist.specs.declared.entry.Rank.{Rank}
use Rattle.openlist.specs.declared.entry.OpenEntry.{OpenEntry}
use Rattle.openlist.specs.OpenLists.{comes_first, IsFirst, entry_of}

abbrev pub rank_cmp : Rank → Rank → Ordering
rank_cmp x y = ordering_then (nat_cmp x.cost y.cost) (nat_cmp x.steps y.steps)

-- what the derived comparison of entries answers
abbrev pub entry_cmp : OpenEntry → OpenEntry → Ordering
entry_cmp x y = ordering_then (nat_cmp x.f y.f) (ordering_then (rank_cmp x.rank y.rank) (nat_cmp x.index y.index))

-- a comparison by two numbers, and where they are the same by what follows
abbrev pub by_number : ℕ → ℕ → Bool → Bool
by_number a b rest = nat_lt a b || ((a == b) && rest)

pub by_number-trans : (a b c : ℕ) (r s t : Bool) → (r ≡ true → s ≡ true → t ≡ true) →
    by_number a b r ≡ true → by_number b c s ≡ true → by_number a c t ≡ true
by_number-trans a b c r s t next h k = grind (arith, nat_tests)

comes_first-by_number : (x y : OpenEntry) →
    comes_first x y ≡ by_number x.f y.f
    (by_number x.rank.cost y.rank.cost (by_number x.rank.steps y.rank.steps (nat_le x.index y.index)))
comes_first-by_number x y = grind (arith, nat_tests)

nat_le-trans : (a b c : ℕ) → nat_le a b ≡ true → nat_le b c ≡ true → nat_le a c ≡ true
nat_le-trans a b c h k = grind (arith, nat_tests)

pub comes_first-refl : (x : OpenEntry) → comes_first x x ≡ true
comes_first-refl x = grind (arith, nat_tests)

comes_first-other : (x y : OpenEntry) → comes_first x y ≡ false → comes_first y x ≡ true
comes_first-other x y h = grind (arith, nat_tests)

pub comes_first-total : (x y : OpenEntry) → (comes_first x y ≡ true) ⊎ (comes_first y x ≡ true)
comes_first-total x y = ⊎_elim (λ h. inl h) (λ h. inr (comes_first-other x y h)) (cases_Bool (comes_first x y))

pub comes_first-trans : (x y z : OpenEntry) → comes_first x y ≡ true → comes_first y z ≡ true → comes_first x z ≡ true
comes_first-trans x y z a b =
    rw (comes_first-by_number x z)
    (by_number-trans x.f y.f z.f _ _ _
    (by_number-trans x.rank.cost y.rank.cost z.rank.cost _ _ _
    (by_number-trans x.rank.steps y.rank.steps z.rank.steps _ _ _ (nat_le-trans x.index y.index z.index)))
    (sym (comes_first-by_number x y) ∙ a) (sym (comes_first-by_number y z) ∙ b))

pub comes_first-f : (x y : OpenEntry) → comes_first x y ≡ true → x.f ≤ y.f
comes_first-f x y h = grind (arith, nat_tests)

same_entry : (x y : OpenEntry) → x.f ≡ y.f → x.rank.cost ≡ y.rank.cost → x.rank.steps ≡ y.rank.steps → x.index ≡ y.index →
    x ≡ y
same_entry x y p q r s =
    ap (λ v. entry_of v x.rank.cost x.rank.steps x.index) p
    ∙ ap (λ v. entry_of y.f v x.rank.steps x.index) q
    ∙ ap (λ v. entry_of y.f y.rank.cost v x.index) r
    ∙ ap (λ v. entry_of y.f y.rank.cost y.rank.steps v) s

pub comes_first-antisym : (x y : OpenEntry) → comes_first x y ≡ true → comes_first y x ≡ true → x ≡ y
comes_first-antisym x y a b =
    same_entry x y (grind (arith, nat_tests)) (grind (arith, nat_tests)) (grind (arith, nat_tests)) (grind (arith, nat_tests))

pub not_less-comes_first : (x y : OpenEntry) → is_lt (entry_cmp y x) ≡ false → comes_first x y ≡ true
not_less-comes_first x y h = grind (arith, nat_tests)

-- what the greatest element of a heap of reversed entries is
pub IsFirst-upper_bound : (x : Reverse OpenEntry) (xs : List (Reverse OpenEntry)) →
    IsUpperBound (λ a b. entry_cmp b.0 a.0) x xs → IsFirst x.0 (map (λ r. r.0) xs)
IsFirst-upper_bound x [] h = All-nil (λ y. comes_first x.0 y ≡ true)
IsFirst-upper_bound x (y ∷ ys) h =
    All-cons (λ z. comes_first x.0 z ≡ true) y.0 (map (λ r. r.0) ys)
    (not_less-comes_first x.0 y.0 h.0) (IsFirst-upper_bound x ys h.1)

pub IsFirst-permutation : (x : OpenEntry) (xs ys : List OpenEntry) → IsPermutation xs ys → IsFirst x xs → IsFirst x ys
IsFirst-permutation x = All-permutation (λ y. comes_first x y ≡ true)

-- the first of some entries is one entry
pub IsFirst-unique : (x y : OpenEntry) (xs : List OpenEntry) → Contains xs x → IsFirst x xs → Contains xs y → IsFirst y xs →
    x ≡ y
IsFirst-unique x y xs member first member' first' =
    comes_first-antisym x y
    (All-contains (λ z. comes_first x z ≡ true) xs y first member')
    (All-contains (λ z. comes_first y z ≡ true) xs x first' member)

-- an entry of a lower f comes first
pub lower_f-comes_first : (x y : OpenEntry) → x.f < y.f → comes_first x y ≡ true
lower_f-comes_first x y h = grind (arith, nat_tests)
