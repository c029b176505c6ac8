-- Elements of lists, and tests of all or some of them.
use Rattle.std.proofs.Common.{◌≡◌, ℕ, zero, suc, ◌<◌, Bool, true, false, List, [], ◌∷◌, length, get_or, refl, sym, subst, arith, inl, inr, ⊎_elim}
use Rattle.std.specs.Prelude.{◌⊎◌, Contains}
use Rattle.std.specs.List.{list_all, list_any}
use Rattle.std.proofs.lemmas.Bool.{and_parts, and_from, or_parts, or_left, or_right, or_cases, false≢true}

pub Contains-here : {X : Type 0} (x : X) (xs : List X) → Contains (x ∷ xs) x
Contains-here x xs = (0, omega arith, refl)

pub Contains-there : {X : Type 0} (x y : X) (xs : List X) → Contains xs y → Contains (x ∷ xs) y
Contains-there x y xs h = (suc h.0, omega (arith, h.1), h.2)

pub none_in : {X : Type 0} (y : X) → Contains [] y → ⊥
none_in y h = let l : h.0 < 0 = h.1 in omega arith

pub Contains-cases : {X : Type 0} (x y : X) (xs : List X) → Contains (x ∷ xs) y → (x ≡ y) ⊎ Contains xs y
Contains-cases {X = X} x y xs h = go h.0 h.1 h.2
  where
    go : (k : ℕ) → k < length (x ∷ xs) → get_or (x ∷ xs) k y ≡ y → (x ≡ y) ⊎ Contains xs y
    go zero l e = inl e
    go (suc k) l e = inr (k, omega arith, e)

module _ {X : Type 0} (p : X → Bool) where
  pub all_at : (xs : List X) (x : X) → list_all p xs ≡ true → Contains xs x → p x ≡ true
  all_at [] x h c = absurd (none_in x c)
  all_at (y ∷ ys) x h c =
      let parts = and_parts (p y) (list_all p ys) h in
      ⊎_elim (λ (e : y ≡ x). subst (λ z. p z ≡ true) e parts.0) (λ (d : Contains ys x). all_at ys x parts.1 d) (Contains-cases y x ys c)

  pub all_from : (xs : List X) → ((x : X) → Contains xs x → p x ≡ true) → list_all p xs ≡ true
  all_from [] h = refl
  all_from (y ∷ ys) h = and_from (p y) (list_all p ys) (h y (Contains-here y ys)) (all_from ys (λ x c. h x (Contains-there y x ys c)))

  pub none_at : (xs : List X) (x : X) → list_any p xs ≡ false → Contains xs x → p x ≡ false
  none_at [] x h c = absurd (none_in x c)
  none_at (y ∷ ys) x h c =
      let parts = or_parts (p y) (list_any p ys) h in
      ⊎_elim (λ (e : y ≡ x). subst (λ z. p z ≡ false) e parts.0) (λ (d : Contains ys x). none_at ys x parts.1 d) (Contains-cases y x ys c)

  pub any_from : (xs : List X) (x : X) → Contains xs x → p x ≡ true → list_any p xs ≡ true
  any_from [] x c h = absurd (none_in x c)
  any_from (y ∷ ys) x c h =
      ⊎_elim
      (λ (e : y ≡ x). or_left (p y) (list_any p ys) (subst (λ z. p z ≡ true) (sym e) h))
      (λ (d : Contains ys x). or_right (p y) (list_any p ys) (any_from ys x d h))
      (Contains-cases y x ys c)

  pub any_at : (xs : List X) → list_any p xs ≡ true → (x : X) × Contains xs x × (p x ≡ true)
  any_at [] h = absurd (false≢true h)
  any_at (y ∷ ys) h =
      ⊎_elim
      (λ (e : p y ≡ true). (y, Contains-here y ys, e))
      (λ (e : list_any p ys ≡ true). let rest = any_at ys e in (rest.0, Contains-there y rest.0 ys rest.1, rest.2))
      (or_cases (p y) (list_any p ys) h)
