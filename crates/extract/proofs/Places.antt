-- Elements by their places, and what holds of each.
use Rattle.std.proofs.Common.{◌≡◌, ℕ, zero, suc, ◌<◌, ◌≤◌, List, [], ◌∷◌, ◌++◌, length, map, flat_map, drop, get_or, Some, All, refl, sym, ap, subst, arith}
use Rattle.std.specs.Prelude.{slice_get}
use Rattle.std.proofs.lemmas.List.Elements.{All-nil, All-cons, All-head, All-tail}
use Rattle.owner_theory.specs.Owners.{At, list_at}

pub at_read : {X : Type 0} (xs : List X) (i : ℕ) (x : X) → i < length xs → x ≡ get_or xs i x → At xs i x
at_read [] i x lt is = absurd (omega arith)
at_read (y ∷ ys) zero x lt is = sym is
at_read (y ∷ ys) (suc i) x lt is = at_read ys i x (omega arith) is

pub at_below : {X : Type 0} (xs : List X) (i : ℕ) (x : X) → At xs i x → i < length xs
at_below [] i x at = absurd at
at_below (y ∷ ys) zero x at = omega arith
at_below (y ∷ ys) (suc i) x at = let rest = at_below ys i x at in omega arith

pub at_get : {X : Type 0} (xs : List X) (i : ℕ) (x : X) → At xs i x → slice_get xs i ≡ Some x
at_get [] i x at = absurd at
at_get (y ∷ ys) zero x at = ap Some at
at_get (y ∷ ys) (suc i) x at = at_get ys i x at

pub at_some : {X : Type 0} (xs : List X) (i : ℕ) → i < length xs → (x : X) × At xs i x
at_some [] i lt = absurd (omega arith)
at_some (y ∷ ys) zero lt = (y, refl)
at_some (y ∷ ys) (suc i) lt = at_some ys i (omega arith)

pub list_at_read : {X : Type 0} (qs : List (List X)) (i : ℕ) → i < length qs → list_at qs i ≡ get_or qs i (list_at qs i)
list_at_read [] i lt = absurd (omega arith)
list_at_read (q ∷ qs) zero lt = refl
list_at_read (q ∷ qs) (suc i) lt = list_at_read qs i (omega arith)

-- ---- what holds of each element

module _ {X : Type 0} (P : X → Type 0) where
  pub each_at : (xs : List X) (i : ℕ) (x : X) → All P xs → At xs i x → P x
  each_at [] i x h at = absurd at
  each_at (y ∷ ys) zero x h at = subst P at (All-head P y ys h)
  each_at (y ∷ ys) (suc i) x h at = each_at ys i x (All-tail P y ys h) at

  pub all_at : (xs : List X) → ((i : ℕ) (x : X) → At xs i x → P x) → All P xs
  all_at [] h = All-nil P
  all_at (y ∷ ys) h = All-cons P y ys (h 0 y refl) (all_at ys (λ i. h (suc i)))

  pub all_under : {Y : Type 0} (f : Y → X) (ys : List Y) → All P (map f ys) → All (λ y. P (f y)) ys
  all_under f [] h = All-nil (λ y. P (f y))
  all_under f (y ∷ ys) h = All-cons (λ y. P (f y)) y ys (All-head P (f y) (map f ys) h) (all_under f ys (All-tail P (f y) (map f ys) h))

  all_front : (xs ys : List X) → All P (xs ++ ys) → All P xs
  all_front [] ys h = All-nil P
  all_front (x ∷ xs) ys h = All-cons P x xs (All-head P x (xs ++ ys) h) (all_front xs ys (All-tail P x (xs ++ ys) h))

  all_back : (xs ys : List X) → All P (xs ++ ys) → All P ys
  all_back [] ys h = h
  all_back (x ∷ xs) ys h = all_back xs ys (All-tail P x (xs ++ ys) h)

  pub all_flat : {Y : Type 0} (f : Y → List X) (ys : List Y) → All P (flat_map f ys) → All (λ y. All P (f y)) ys
  all_flat f [] h = All-nil (λ y. All P (f y))
  all_flat f (y ∷ ys) h =
      All-cons (λ y. All P (f y)) y ys (all_front (f y) (flat_map f ys) h) (all_flat f ys (all_back (f y) (flat_map f ys) h))

-- ---- what is left of a list from a place on

pub drop_here : {X : Type 0} (i : ℕ) (xs : List X) (y : X) (ys : List X) → drop i xs ≡ y ∷ ys → At xs i y × (drop (suc i) xs ≡ ys)
drop_here zero [] y ys e = absurd (cc)
drop_here zero (x ∷ xs) y ys e = let h : x ≡ y = cc in let t : xs ≡ ys = cc in (h, t)
drop_here (suc i) [] y ys e = absurd (cc)
drop_here (suc i) (x ∷ xs) y ys e = drop_here i xs y ys e

pub drop_end : {X : Type 0} (i : ℕ) (xs : List X) → drop i xs ≡ [] → length xs ≤ i
drop_end zero [] e = omega arith
drop_end zero (x ∷ xs) e = absurd (cc)
drop_end (suc i) [] e = omega arith
drop_end (suc i) (x ∷ xs) e = let rest = drop_end i xs e in omega arith
