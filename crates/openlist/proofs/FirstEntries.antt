-- The first entry of a list: what it is after the list was rearranged, and after an entry was added.
use Rattle.std.specs.Prelude.{IsPermutation, Option, None, Some}
use Rattle.std.specs.Ordering.{is_lt, ord_min}
use Rattle.std.proofs.Common.{◌≡◌, Bool, true, false, cond, List, [], ◌∷◌, length, get_or, arith, refl}
use Rattle.std.proofs.lemmas.Bool.Decides.{nat_tests}
use Rattle.std.proofs.lemmas.List.Elements.{All-cons, Contains-append_right}
use Rattle.std.proofs.lemmas.List.Sorted.{Contains-permutation, length_permutation}
use Rattle.openlist.specs.declared.entry.OpenEntry.{OpenEntry}
use Rattle.openlist.specs.OpenLists.{comes_first, IsFirstOf}
use Rattle.openlist.proofs.Order.{comes_first-refl, comes_first-trans, entry_cmp, IsFirst-permutation, not_less-comes_first}

no_element-permutation : (xs ys : List OpenEntry) → IsPermutation xs ys → xs ≡ [] → ys ≡ []
no_element-permutation xs [] same none = refl
no_element-permutation xs (y ∷ ys) same none =
    let long : length (y ∷ ys) ≡ length xs = length_permutation xs (y ∷ ys) same in
    absurd (grind (arith, long, none))

pub IsFirstOf-permutation : (first : Option OpenEntry) (xs ys : List OpenEntry) → IsPermutation xs ys →
    IsFirstOf first xs → IsFirstOf first ys
IsFirstOf-permutation None xs ys same none = no_element-permutation xs ys same none
IsFirstOf-permutation (Some x) xs ys same is = (
  Contains-permutation xs ys x same is.0,
  IsFirst-permutation x xs ys same is.1,
)

-- a first entry stays first if a later one is added
IsFirstOf-stays : (x added : OpenEntry) (entries : List OpenEntry) → comes_first x added ≡ true →
    IsFirstOf (Some x) entries → IsFirstOf (Some x) (added ∷ entries)
IsFirstOf-stays x added entries later is = (
  Contains-append_right (added ∷ []) entries x is.0,
  All-cons (λ y. comes_first x y ≡ true) added entries later is.1,
)

-- an added entry is the first if it comes before the first one so far
IsFirstOf-added : (x added : OpenEntry) (entries : List OpenEntry) → comes_first added x ≡ true →
    IsFirstOf (Some x) entries → IsFirstOf (Some added) (added ∷ entries)
IsFirstOf-added x added entries earlier is = (
  (0, omega arith, refl),
  All-cons (λ y. comes_first added y ≡ true) added entries (comes_first-refl added)
      (λ k d inside. comes_first-trans added x (get_or entries k d) earlier (is.1 k d inside)),
)

-- of the two entries the one that `less` selects is the first
IsFirstOf-earlier : (less : Bool) (x added : OpenEntry) (entries : List OpenEntry) →
    (less ≡ true → comes_first added x ≡ true) → (less ≡ false → comes_first x added ≡ true) →
    IsFirstOf (Some x) entries → IsFirstOf (Some (cond less added x)) (added ∷ entries)
IsFirstOf-earlier true x added entries before after is = IsFirstOf-added x added entries (before refl) is
IsFirstOf-earlier false x added entries before after is = IsFirstOf-stays x added entries (after refl) is

less-comes_first : (x y : OpenEntry) → is_lt (entry_cmp x y) ≡ true → comes_first x y ≡ true
less-comes_first x y h = grind (arith, nat_tests)

-- the first entry after an entry was added is the earlier of it and the first one so far
pub IsFirstOf-min : (x added : OpenEntry) (entries : List OpenEntry) → IsFirstOf (Some x) entries →
    IsFirstOf (Some (ord_min entry_cmp x added)) (added ∷ entries)
IsFirstOf-min x added entries is =
    IsFirstOf-earlier (is_lt (entry_cmp added x)) x added entries (less-comes_first added x) (not_less-comes_first x added) is
