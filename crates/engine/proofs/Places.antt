-- Elements of a list of which one or two are changed.
use Rattle.std.proofs.Common.{◌≡◌, ◌≢◌, ◌⊎◌, ℕ, zero, suc, ◌+◌, ◌<◌, ◌≤◌, List, [], ◌∷◌, ◌++◌, length, map, get_or, refl, sym, ap, ◌∙◌, subst, append_assoc, inl, inr, ⊎_elim, arith}
use Rattle.std.specs.Prelude.{slice_set}
use Rattle.std.proofs.lemmas.Bool.{cases_lt}
use Rattle.owner_theory.specs.Owners.{At}
use Rattle.owner_theory.proofs.Lists.{at_once}
use Rattle.extract.proofs.Places.{at_below, at_read}

-- an element of a list of which one was changed: that one, or one of those that were there
pub at_set : {X : Type 0} (xs : List X) (i : ℕ) (y : X) (j : ℕ) (x : X) → At (slice_set xs i y) j x
    → ((j ≡ i) × (y ≡ x)) ⊎ ((j ≢ i) × At xs j x)
at_set [] i y j x at = absurd at
at_set (z ∷ xs) zero y zero x at = inl (refl, at)
at_set (z ∷ xs) zero y (suc j) x at = inr (omega arith, at)
at_set (z ∷ xs) (suc i) y zero x at = inr (omega arith, at)
at_set (z ∷ xs) (suc i) y (suc j) x at = ⊎_elim
    (λ (h : (j ≡ i) × (y ≡ x)). inl (ap suc h.0, h.1))
    (λ (h : (j ≢ i) × At xs j x). inr ((λ (e : suc j ≡ suc i). h.0 (omega arith)), h.1))
    (at_set xs i y j x at)

pub at_here : {X : Type 0} (xs : List X) (i : ℕ) (y : X) → i < length xs → At (slice_set xs i y) i y
at_here [] i y lt = absurd (omega arith)
at_here (z ∷ xs) zero y lt = refl
at_here (z ∷ xs) (suc i) y lt = at_here xs i y (omega arith)

-- what holds of the elements before a place, and of the one there
pub each_more : {X : Type 0} (P : ℕ → X → Type 0) (xs : List X) (k : ℕ) (x : X) → k < length xs → x ≡ get_or xs k x → P k x
    → ((v : ℕ) (w : X) → v < k → At xs v w → P v w) → (v : ℕ) (w : X) → v < k + 1 → At xs v w → P v w
each_more P xs k x within is here each v w lt at = ⊎_elim
    (λ (below : v < k). each v w below at)
    (λ (le : k ≤ v). let same : k ≡ v = omega arith in
    subst (λ n. P n w) same (subst (P k) (at_once xs k x w (at_read xs k x within is) (subst (λ n. At xs n w) (sym same) at)) here))
    (cases_lt v k)

pub each_all : {X : Type 0} (P : ℕ → X → Type 0) (xs : List X) (k : ℕ) → length xs ≤ k → ((v : ℕ) (w : X) → v < k → At xs v w → P v w)
    → (v : ℕ) (w : X) → At xs v w → P v w
each_all P xs k le each v w at = let lt = at_below xs v w at in each v w (omega arith) at

-- the same of a list that is read in place of another
pub each_more_read : {X : Type 0} (P : ℕ → X → Type 0) (xs ys : List X) (e : ys ≡ xs) (k : ℕ) (x : X) → k < length ys → x ≡ get_or ys k x → P k x
    → ((v : ℕ) (w : X) → v < k → At xs v w → P v w) → (v : ℕ) (w : X) → v < k + 1 → At xs v w → P v w
each_more_read {X = X} P xs ys e k x within is here each =
    each_more P xs k x (subst (λ (zs : List X). k < length zs) e within) (subst (λ (zs : List X). x ≡ get_or zs k x) e is) here each

pub each_all_read : {X : Type 0} (P : ℕ → X → Type 0) (xs ys : List X) (e : ys ≡ xs) (k : ℕ) → length ys ≤ k
    → ((v : ℕ) (w : X) → v < k → At xs v w → P v w) → (v : ℕ) (w : X) → At xs v w → P v w
each_all_read {X = X} P xs ys e k le each = each_all P xs k (subst (λ (zs : List X). length zs ≤ k) e le) each

-- what is mapped so far, and what is left of a list, of which the next element is mapped
pub mapped_next : {X Y : Type 0} (f : X → Y) (done new : List Y) (all : List Y) (y : Y) (x : X) (left rest : List X) → left ≡ x ∷ rest → y ≡ f x
    → new ≡ done ++ y ∷ [] → done ++ map f left ≡ all → new ++ map f rest ≡ all
mapped_next {X = X} {Y = Y} f done new all y x left rest e is pushed before =
    ap (λ (ys : List Y). ys ++ map f rest) pushed
    ∙ (append_assoc done (y ∷ []) (map f rest)
    ∙ (ap (λ (z : Y). done ++ (z ∷ map f rest)) is ∙ (ap (λ (xs : List X). done ++ map f xs) (sym e) ∙ before)))
