-- Rows and columns of ends, as they grow.
use Rattle.std.proofs.Common.{◌≡◌, ℕ, zero, suc, ◌+◌, ◌⊎◌, inl, inr, ⊎_elim, List, [], ◌∷◌, ◌++◌, length, slice_get, Some, Vec, sym, refl, ap, subst, arith, length-append}
use Rattle.std.proofs.lemmas.Option.{slice_get_within}
use Rattle.links.specs.declared.ends.Out.{Out}
use Rattle.links.specs.declared.ends.In.{In}
use Rattle.links.specs.Ends.{IsFresh}
use Rattle.links.specs.Tables.{rows, HasSize, AreFresh, AreMatched, grown}

pub get_pushed : {A : Type 0} (xs : List A) (y : A) (k : ℕ) (x : A) → slice_get (xs ++ y ∷ []) k ≡ Some x → (slice_get xs k ≡ Some x) ⊎ ((k ≡ length xs) × (y ≡ x))
get_pushed [] y zero x e = inr (refl, cc)
get_pushed [] y (suc k) x e = absurd (cc)
get_pushed (z ∷ zs) y zero x e = inl e
get_pushed (z ∷ zs) y (suc k) x e = ⊎_elim (λ t. inl t) (λ t. let s = t.0 in inr (omega arith, t.1)) (get_pushed zs y k x e)

module _ {A : Type 0} where
  pub rows_pushed : {G : Type 0} (vs : List (Vec A G)) (v : Vec A G) → rows (vs ++ v ∷ []) ≡ rows vs ++ v.items ∷ []
  rows_pushed [] v = refl
  rows_pushed (x ∷ xs) v = ap {B = List (List A)} (λ r. x.items ∷ r) (rows_pushed xs v)

  pub size_pushed : (n m : ℕ) (rs : List (List A)) (r : List A) → HasSize n m rs → length r ≡ m → HasSize (n + 1) m (rs ++ r ∷ [])
  size_pushed n m rs r (tall, wide) e = (
    (let l = length-append rs (r ∷ []) in omega arith),
    λ k q at. ⊎_elim (λ t. wide k q t) (λ t. subst (λ z. length z ≡ m) t.1 e) (get_pushed rs r k q at),
  )

  pub length-grown : (cs : List (List A)) (xs : List A) → length cs ≡ length xs → length (grown cs xs) ≡ length cs
  length-grown [] xs e = refl
  length-grown (c ∷ cs) [] e = absurd (omega arith)
  length-grown (c ∷ cs) (x ∷ xs) e = let r = length-grown cs xs (omega arith) in omega arith

  pub grown_none : (cs : List (List A)) (xs : List A) → length cs ≡ 0 → grown cs xs ≡ []
  grown_none [] xs e = refl
  grown_none (c ∷ cs) xs e = absurd (omega arith)

  pub length-rows : {G : Type 0} (vs : List (Vec A G)) → length (rows vs) ≡ length vs
  length-rows [] = refl
  length-rows (v ∷ vs) = ap suc (length-rows vs)

  pub grown_at : (cs : List (List A)) (xs : List A) (k : ℕ) (d : List A) → slice_get (grown cs xs) k ≡ Some d
      → (c : List A) × (x : A) × (slice_get cs k ≡ Some c) × (slice_get xs k ≡ Some x) × (d ≡ c ++ x ∷ [])
  grown_at [] xs k d e = absurd (cc)
  grown_at (c ∷ cs) [] k d e = absurd (cc)
  grown_at (c ∷ cs) (x ∷ xs) zero d e = (c, x, refl, refl, cc)
  grown_at (c ∷ cs) (x ∷ xs) (suc k) d e = grown_at cs xs k d e

  pub size_grown : (n m : ℕ) (cs : List (List A)) (xs : List A) → HasSize n m cs → length xs ≡ n → HasSize n (m + 1) (grown cs xs)
  size_grown n m cs xs (tall, wide) e = (
    (let l = length-grown cs xs (omega arith) in omega arith),
    λ k q at. let (c, x, at_c, at_x, is) = grown_at cs xs k q at in
        let w = wide k c at_c in let l = length-append c (x ∷ []) in let l' : length q ≡ length (c ++ x ∷ []) = ap length is in omega arith,
  )

pub fresh_pushed : {F : Type 0} (capacity n : ℕ) (os : List (Out F)) (is : List (In F)) (o : Out F) (i : In F) → length os ≡ n → length is ≡ n → AreFresh capacity os is → IsFresh capacity o i → AreFresh capacity (os ++ o ∷ []) (is ++ i ∷ [])
fresh_pushed capacity n os is o i len len' fresh here k p q at at' =
    ⊎_elim
    (λ t. ⊎_elim (λ t'. fresh k p q t t') (λ t'. let low = slice_get_within os k p t in let s = t'.0 in absurd (omega arith)) (get_pushed is i k q at'))
    (λ t. ⊎_elim (λ t'. let low = slice_get_within is k q t' in let s = t.0 in absurd (omega arith))
    (λ t'. subst (λ z. IsFresh capacity z q) t.1 (subst (λ z. IsFresh capacity o z) t'.1 here))
    (get_pushed is i k q at'))
    (get_pushed os o k p at)

pub matched_grown : {F : Type 0} (capacity n w : ℕ) (outs : List (List (Out F))) (ins : List (List (In F))) (os : List (Out F)) (is : List (In F))
    → HasSize w n outs → HasSize n w ins → AreMatched capacity outs ins → AreFresh capacity os is → AreMatched capacity (outs ++ os ∷ []) (grown ins is)
matched_grown capacity n w outs ins os is (tall, wide) (tall', wide') matched fresh k v os' is' o i at_os at_o at_is at_i =
    let (c, x, at_c, at_x, e) = grown_at ins is v is' at_is in
    let long = wide' v c at_c in
    let at_i' : slice_get (c ++ x ∷ []) k ≡ Some i = subst (λ z. slice_get z k ≡ Some i) e at_i in
    ⊎_elim
    (λ t. ⊎_elim (λ t'. matched k v os' c o i t at_o at_c t')
    (λ t'. let low = slice_get_within outs k os' t in let s = t'.0 in absurd (omega arith)) (get_pushed c x k i at_i'))
    (λ t. ⊎_elim (λ t'. let low = slice_get_within c k i t' in let s = t.0 in absurd (omega arith))
    (λ t'. fresh v o i (subst (λ z. slice_get z v ≡ Some o) (sym t.1) at_o) (subst (λ z. slice_get is v ≡ Some z) t'.1 at_x))
    (get_pushed c x k i at_i'))
    (get_pushed outs os k os' at_os)
