-- Elements by their places, in lists of which one element is changed.
use Rattle.std.proofs.Common.{◌≡◌, ◌≢◌, ◌⊎◌, ℕ, zero, suc, ◌<◌, ◌≤◌, List, [], ◌∷◌, length, map, get_or, Some, refl, sym, ap, ◌∙◌, inl, inr, ⊎_elim, arith}
use Rattle.std.specs.Prelude.{slice_get, slice_set}
use Rattle.std.specs.List.{insert, remove}
use Rattle.owner_theory.specs.Owners.{At, list_at}

pub at_here : {X : Type 0} (xs : List X) (i : ℕ) (x : X) → i < length xs → x ≡ get_or xs i x → At xs i x
at_here [] i x lt e = absurd (omega arith)
at_here (y ∷ xs) zero x lt e = sym e
at_here (y ∷ xs) (suc i) x lt e = at_here xs i x (omega arith) e

pub at_below : {X : Type 0} (xs : List X) (i : ℕ) (x : X) → At xs i x → i < length xs
at_below [] i x at = absurd at
at_below (y ∷ xs) zero x at = omega arith
at_below (y ∷ xs) (suc i) x at = let rest = at_below xs i x at in omega arith

pub at_read : {X : Type 0} (xs : List X) (i : ℕ) (x : X) → At xs i x → slice_get xs i ≡ Some x
at_read [] i x at = absurd at
at_read (y ∷ xs) zero x at = ap Some at
at_read (y ∷ xs) (suc i) x at = at_read xs i x at

pub at_some : {X : Type 0} (xs : List X) (i : ℕ) → i < length xs → (x : X) × At xs i x
at_some [] i lt = absurd (omega arith)
at_some (y ∷ xs) zero lt = (y, refl)
at_some (y ∷ xs) (suc i) lt = at_some xs i (omega arith)

pub at_list : {X : Type 0} (qs : List (List X)) (i : ℕ) (q : List X) → At qs i q → list_at qs i ≡ q
at_list [] i q at = absurd at
at_list (p ∷ qs) zero q at = at
at_list (p ∷ qs) (suc i) q at = at_list qs i q at

pub list_past : {X : Type 0} (qs : List (List X)) (i : ℕ) → length qs ≤ i → list_at qs i ≡ []
list_past [] i le = refl
list_past (p ∷ qs) zero le = absurd (omega arith)
list_past (p ∷ qs) (suc i) le = list_past qs i (omega arith)

-- an element of a list of which one was changed: that one, or one of those that were there
pub at_set : {X : Type 0} (xs : List X) (i : ℕ) (y : X) (j : ℕ) (x : X) → At (slice_set xs i y) j x
    → ((j ≡ i) × (y ≡ x)) ⊎ ((j ≢ i) × At xs j x)
at_set [] i y j x at = absurd at
at_set (z ∷ xs) zero y zero x at = inl (refl, at)
at_set (z ∷ xs) zero y (suc j) x at = inr (omega arith, at)
at_set (z ∷ xs) (suc i) y zero x at = inr (omega arith, at)
at_set (z ∷ xs) (suc i) y (suc j) x at = ⊎_elim
    (λ (h : (j ≡ i) × (y ≡ x)). inl (ap suc h.0, h.1))
    (λ (h : (j ≢ i) × At xs j x). inr ((λ (e : suc j ≡ suc i). h.0 (omega arith)), h.1))
    (at_set xs i y j x at)

pub set_at : {X : Type 0} (xs : List X) (i : ℕ) (y : X) → i < length xs → At (slice_set xs i y) i y
set_at [] i y lt = absurd (omega arith)
set_at (z ∷ xs) zero y lt = refl
set_at (z ∷ xs) (suc i) y lt = set_at xs i y (omega arith)

pub set_same : {X : Type 0} (xs : List X) (i : ℕ) (x : X) → At xs i x → slice_set xs i x ≡ xs
set_same [] i x at = absurd at
set_same (y ∷ xs) zero x at = ap (λ z. z ∷ xs) (sym at)
set_same (y ∷ xs) (suc i) x at = ap (λ zs. y ∷ zs) (set_same xs i x at)

pub map_at : {X Y : Type 0} (f : X → Y) (xs : List X) (i : ℕ) (x : X) → At xs i x → At (map f xs) i (f x)
map_at f [] i x at = absurd at
map_at f (y ∷ xs) zero x at = ap f at
map_at f (y ∷ xs) (suc i) x at = map_at f xs i x at

-- where one element was changed
pub set_there : {X : Type 0} (xs : List X) (i : ℕ) (y x : X) → At (slice_set xs i y) i x → y ≡ x
set_there xs i y x at = ⊎_elim (λ (h : (i ≡ i) × (y ≡ x)). h.1) (λ (h : (i ≢ i) × At xs i x). absurd (h.0 refl)) (at_set xs i y i x at)

pub set_elsewhere : {X : Type 0} (xs : List X) (i : ℕ) (y : X) (j : ℕ) (x : X) → j ≢ i → At (slice_set xs i y) j x → At xs j x
set_elsewhere xs i y j x ne at = ⊎_elim (λ (h : (j ≡ i) × (y ≡ x)). absurd (ne h.0)) (λ (h : (j ≢ i) × At xs j x). h.1) (at_set xs i y j x at)

pub at_own : {X : Type 0} (qs : List (List X)) (i : ℕ) → i < length qs → At qs i (list_at qs i)
at_own [] i lt = absurd (omega arith)
at_own (q ∷ qs) zero lt = refl
at_own (q ∷ qs) (suc i) lt = at_own qs i (omega arith)

pub map_remove : {X Y : Type 0} (f : X → Y) (xs : List X) (i : ℕ) → map f (remove xs i) ≡ remove (map f xs) i
map_remove f [] zero = refl
map_remove f [] (suc i) = refl
map_remove f (x ∷ xs) zero = refl
map_remove f (x ∷ xs) (suc i) = ap (λ ys. f x ∷ ys) (map_remove f xs i)

-- an element that was taken out, and in whose place another one is put of which the same is seen
pub map_put_back : {X Y : Type 0} (f : X → Y) (xs : List X) (i : ℕ) (x y : X) → slice_get xs i ≡ Some x → f y ≡ f x
    → map f (insert (remove xs i) i y) ≡ map f xs
map_put_back f [] i x y is same = absurd (cc)
map_put_back f (z ∷ xs) zero x y is same = let there : x ≡ z = cc in ap (λ w. w ∷ map f xs) (same ∙ ap f there)
map_put_back f (z ∷ xs) (suc i) x y is same = ap (λ ys. f z ∷ ys) (map_put_back f xs i x y is same)
