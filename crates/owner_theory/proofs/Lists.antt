-- Elements by their places, functions with another value at one number, and what holds of elements.
use Rattle.std.proofs.Common.{◌≡◌, ◌⊎◌, ℕ, zero, suc, ◌+◌, ◌<◌, ◌≤◌, Bool, false, ◌==◌, List, [], ◌∷◌, ◌++◌, length, Option, Some, None, All, refl, sym, ap, ◌∙◌, subst, inl, inr, ⊎_elim, arith}
use Rattle.std.specs.Prelude.{slice_get, slice_set, filter, filter_map, Any, AllPairs}
use Rattle.std.specs.List.{range_with_len, cons_option}
use Rattle.std.proofs.lemmas.Bool.{cond_both, cases_lt, eqb-true}
use Rattle.std.proofs.lemmas.List.Elements.{All-head, All-tail, All-append}
use Rattle.std.proofs.lemmas.List.Kept.{AllPairs-cons}
use Rattle.owner_theory.specs.Owners.{At, list_at, put}
use Rattle.owner_theory.specs.Families.{In}

-- ---- places

pub at_get : {X : Type 0} (xs : List X) (i : ℕ) (x : X) → slice_get xs i ≡ Some x → At xs i x
at_get [] i x h = absurd (cc)
at_get (y ∷ xs) zero x h = let same : y ≡ x = cc in same
at_get (y ∷ xs) (suc i) x h = at_get xs i x h

pub get_at : {X : Type 0} (xs : List X) (i : ℕ) (x : X) → At xs i x → slice_get xs i ≡ Some x
get_at [] i x h = absurd h
get_at (y ∷ xs) zero x h = ap Some h
get_at (y ∷ xs) (suc i) x h = get_at xs i x h

pub there_at : {X : Type 0} (xs : List X) (i : ℕ) → i < length xs → (x : X) × At xs i x
there_at [] i lt = absurd (omega arith)
there_at (y ∷ xs) zero lt = (y, refl)
there_at (y ∷ xs) (suc i) lt = there_at xs i (omega arith)

pub at_below : {X : Type 0} (xs : List X) (i : ℕ) (x : X) → At xs i x → i < length xs
at_below [] i x h = absurd h
at_below (y ∷ xs) zero x h = omega arith
at_below (y ∷ xs) (suc i) x h = let rest = at_below xs i x h in omega arith

pub get_below : {X : Type 0} (xs : List X) (i : ℕ) (x : X) → slice_get xs i ≡ Some x → i < length xs
get_below [] i x h = absurd (cc)
get_below (y ∷ ys) zero x h = omega arith
get_below (y ∷ ys) (suc i) x h = let rest = get_below ys i x h in omega arith

-- two elements at one place are one
pub at_once : {X : Type 0} (xs : List X) (i : ℕ) (x y : X) → At xs i x → At xs i y → x ≡ y
at_once [] i x y p q = absurd p
at_once (z ∷ xs) zero x y p q = sym p ∙ q
at_once (z ∷ xs) (suc i) x y p q = at_once xs i x y p q

pub in_cons : {X : Type 0} (x y : X) (xs : List X) → In x xs → In x (y ∷ xs)
in_cons x y xs (i, at) = (suc i, at)

pub at_front : {X : Type 0} (x : X) (xs ys : List X) (i : ℕ) → At xs i x → At (xs ++ ys) i x
at_front x [] ys i h = absurd h
at_front x (z ∷ xs) ys zero h = h
at_front x (z ∷ xs) ys (suc i) h = at_front x xs ys i h

pub in_front : {X : Type 0} (x : X) (xs ys : List X) → In x xs → In x (xs ++ ys)
in_front x xs ys (i, at) = (i, at_front x xs ys i at)

pub in_last : {X : Type 0} (x : X) (xs : List X) → In x (xs ++ x ∷ [])
in_last x [] = (zero, refl)
in_last x (y ∷ xs) = in_cons x y (xs ++ x ∷ []) (in_last x xs)

pub snoc_cases : {X : Type 0} (x y : X) (xs : List X) (i : ℕ) → At (xs ++ y ∷ []) i x → In x xs ⊎ (y ≡ x)
snoc_cases x y [] zero h = inr h
snoc_cases x y [] (suc i) h = absurd h
snoc_cases x y (z ∷ xs) zero h = inl (zero, h)
snoc_cases x y (z ∷ xs) (suc i) h = ⊎_elim (λ (p : In x xs). inl (in_cons x z xs p)) (λ (p : y ≡ x). inr p)
    (snoc_cases x y xs i h)

pub in_range : (a n o : ℕ) → a ≤ o → o < a + n → In o (range_with_len a n)
in_range a zero o le lt = absurd (omega arith)
in_range a (suc n) o le lt =
    ⊎_elim
    (λ (q : o < a + 1). let same : a ≡ o = omega arith in (zero, same))
    (λ (q : a + 1 ≤ o). in_cons o a (range_with_len (a + 1) n) (in_range (a + 1) n o q (omega arith)))
    (cases_lt o (a + 1))

-- ---- another value at one place

pub set_elsewhere : {X : Type 0} (xs : List X) (i : ℕ) (y : X) (j : ℕ) (x : X) → (j ≡ i → ⊥) → At xs j x → At (slice_set xs i y) j x
set_elsewhere [] i y j x ne h = h
set_elsewhere (z ∷ xs) zero y zero x ne h = absurd (ne refl)
set_elsewhere (z ∷ xs) zero y (suc j) x ne h = h
set_elsewhere (z ∷ xs) (suc i) y zero x ne h = h
set_elsewhere (z ∷ xs) (suc i) y (suc j) x ne h = set_elsewhere xs i y j x (λ e. ne (ap suc e)) h

pub put_cases : {X : Type 0} (f : ℕ → X) (w : ℕ) (x : X) (v : ℕ) (P : X → Type 0) → (v ≡ w → P x)
    → ((v == w) ≡ false → P (f v)) → P (put f w x v)
put_cases f w x v P here there = cond_both (v == w) x (f v) P (λ e. here (eqb-true v w e)) there

pub set_cases : {X : Type 0} (qs : List (List X)) (w : ℕ) (x : List X) (v : ℕ) (P : List X → Type 0) → (v ≡ w → P x) → P
    (list_at qs v) → P (list_at (slice_set qs w x) v)
set_cases [] w x v P here there = there
set_cases (q ∷ qs) zero x zero P here there = here refl
set_cases (q ∷ qs) zero x (suc v) P here there = there
set_cases (q ∷ qs) (suc w) x zero P here there = there
set_cases (q ∷ qs) (suc w) x (suc v) P here there = set_cases qs w x v P (λ e. here (ap suc e)) there

pub set_there : {X : Type 0} (qs : List (List X)) (w : ℕ) (x : List X) → w < length qs → list_at (slice_set qs w x) w ≡ x
set_there [] w x lt = absurd (omega arith)
set_there (q ∷ qs) zero x lt = refl
set_there (q ∷ qs) (suc w) x lt = set_there qs w x (omega arith)

-- ---- what a function gives of the elements

module _ {X Y : Type 0} (f : X → Option Y) where
  pub in_filter_map : (xs : List X) (x : X) (y : Y) → In x xs → f x ≡ Some y → In y (filter_map f xs)
  in_filter_map [] x y h e = absurd h.1
  in_filter_map (z ∷ xs) x y (zero, at) e =
      let found : f z ≡ Some y = ap f at ∙ e in
      subst (λ r. In y (cons_option r (filter_map f xs))) (sym found) (zero, refl)
  in_filter_map (z ∷ xs) x y (suc i, at) e = kept (f z) (in_filter_map xs x y (i, at) e)
    where
      kept : (r : Option Y) → In y (filter_map f xs) → In y (cons_option r (filter_map f xs))
      kept None h = h
      kept (Some w) h = in_cons y w (filter_map f xs) h

  pub filter_map_in : (xs : List X) (y : Y) → In y (filter_map f xs) → (x : X) × (f x ≡ Some y)
  filter_map_in [] y h = absurd h.1
  filter_map_in (z ∷ xs) y h = go (f z) refl (filter_map_in xs y) h
    where
      go : (r : Option Y) → f z ≡ r → (In y (filter_map f xs) → (x : X) × (f x ≡ Some y)) → In y
          (cons_option r (filter_map f xs)) → (x : X) × (f x ≡ Some y)
      go None is rest q = rest q
      go (Some w) is rest (zero, at) = (z, is ∙ ap Some at)
      go (Some w) is rest (suc i, at) = rest (i, at)

  -- what a test leaves out gives nothing, so it may be left out first
  pub filter_map-filter : (test : X → Bool) → ((x : X) → test x ≡ false → f x ≡ None) → (xs : List X) → filter_map f
      (filter test xs) ≡ filter_map f xs
  filter_map-filter test none [] = refl
  filter_map-filter test none (x ∷ xs) =
      let rest = filter_map-filter test none xs in
      cond_both (test x) (x ∷ filter test xs) (filter test xs) (λ ys. filter_map f ys ≡ filter_map f (x ∷ xs))
      (λ _. ap (cons_option (f x)) rest)
      (λ out. rest ∙ ap (λ r. cons_option r (filter_map f xs)) (sym (none x out)))

-- ---- what holds of some element, and of each two
module _ {X : Type 0} (P : X → Type 0) where
  pub any_here : (x : X) (xs : List X) → P x → Any P (x ∷ xs)
  any_here x xs h = (0, x, omega arith, refl, h)

  pub any_later : (x : X) (xs : List X) → Any P xs → Any P (x ∷ xs)
  any_later x xs h = (suc h.0, h.1, omega (arith, h.2), h.3, h.4)

  pub any_in_front : (xs ys : List X) → Any P xs → Any P (xs ++ ys)
  any_in_front [] ys h = absurd (omega (arith, h.2))
  any_in_front (x ∷ xs) ys (zero, y, lt, at, p) = any_here x (xs ++ ys) (subst P (sym at) p)
  any_in_front (x ∷ xs) ys (suc k, y, lt, at, p) = any_later x (xs ++ ys) (any_in_front xs ys (k, y, omega arith, at, p))

  pub any_behind : (xs ys : List X) → Any P ys → Any P (xs ++ ys)
  any_behind [] ys h = h
  any_behind (x ∷ xs) ys h = any_later x (xs ++ ys) (any_behind xs ys h)

pub pairs_append : {X : Type 0} (R : X → X → Type 0) (xs ys : List X) → AllPairs R xs → AllPairs R ys → All
    (λ x. All (R x) ys) xs → AllPairs R (xs ++ ys)
pairs_append R [] ys p q across = q
pairs_append R (x ∷ xs) ys p q across =
    AllPairs-cons R x (xs ++ ys)
    (All-append (R x) xs ys (λ k d l. p 0 (suc k) d (omega arith) (omega arith)) (All-head (λ x. All (R x) ys) x xs across))
    (pairs_append R xs ys (λ i j d h l. p (suc i) (suc j) d (omega arith) (omega arith)) q
    (All-tail (λ x. All (R x) ys) x xs across))
