-- The numbers of the variables that stay.
use Rattle.std.proofs.Common.{◌≡◌, ℕ, zero, suc, ◌+◌, ◌<◌, ◌≤◌, Bool, true, false, List, [], ◌∷◌, ◌++◌, length, filter, Some, None, refl, sym, ap, subst, ◌∙◌, arith, cond, get_or, add-one, ⊎_elim}
use Rattle.std.specs.List.{range_with_len}
use Rattle.std.proofs.lemmas.Bool.{cond-true, cond-false, cases_eq, cases_lt, cases_Bool}
use Rattle.std.proofs.lemmas.Option.{cond_some}
use Rattle.std.proofs.lemmas.List.{map-id, length-append, length_push, get_or_append_left, get_or_push}
use Rattle.std.proofs.lemmas.List.FromFn.{map-range_with_len_more}
use Rattle.std.proofs.lemmas.List.Elements.{filter-append}
use Rattle.reduction_classes.specs.Classes.{stays, staying_below, staying, number_of}

pub range_more : (n : ℕ) → range_with_len 0 (n + 1) ≡ range_with_len 0 n ++ n ∷ []
range_more n =
    sym (map-id (range_with_len 0 (n + 1))) ∙ map-range_with_len_more (λ (x : ℕ). x) 0 n n (omega arith) ∙ ap (λ (xs : List ℕ). xs ++ n ∷ []) (map-id (range_with_len 0 n))

-- the numbers below n that pass a test
module _ (p : ℕ → Bool) where
  abbrev pub passing : ℕ → List ℕ
  passing n = filter p (range_with_len 0 n)

  passing_more : (n : ℕ) → passing (n + 1) ≡ passing n ++ cond (p n) (n ∷ []) []
  passing_more n = ap (filter p) (range_more n) ∙ filter-append p (range_with_len 0 n) (n ∷ [])

  pub passing_yes : (n : ℕ) → p n ≡ true → passing (suc n) ≡ passing n ++ n ∷ []
  passing_yes n e = subst (λ (k : ℕ). passing k ≡ passing n ++ n ∷ []) (add-one n) (passing_more n ∙ ap (λ (xs : List ℕ). passing n ++ xs) (cond-true (p n) (n ∷ []) [] e))

  pub passing_no : (n : ℕ) → p n ≡ false → passing (suc n) ≡ passing n ++ []
  passing_no n e = subst (λ (k : ℕ). passing k ≡ passing n ++ []) (add-one n) (passing_more n ∙ ap (λ (xs : List ℕ). passing n ++ xs) (cond-false (p n) (n ∷ []) [] e))

  -- a number that passes is at the index that counts those below it that pass
  pub place_of_passing : (n v : ℕ) → v < n → p v ≡ true → (length (passing v) < length (passing n)) × (get_or (passing n) (length (passing v)) 0 ≡ v)
  place_of_passing zero v l e = absurd (omega arith)
  place_of_passing (suc n) v l e = ⊎_elim here (earlier (λ k. place_of_passing n v k e)) (cases_eq v n)
    where
      here : v ≡ n → (length (passing v) < length (passing (suc n))) × (get_or (passing (suc n)) (length (passing v)) 0 ≡ v)
      here q =
          let more : passing (suc n) ≡ passing v ++ v ∷ [] = subst (λ (k : ℕ). passing (suc n) ≡ passing k ++ k ∷ []) (sym q) (passing_yes n (subst (λ (k : ℕ). p k ≡ true) q e)) in (
            (let long = ap length more in omega (arith, long, length_push (passing v) v)),
            ap (λ (ys : List ℕ). get_or ys (length (passing v)) 0) more ∙ get_or_push (passing v) v 0 (length (passing v)) refl,
          )

      appended : (xs : List ℕ) → passing (suc n) ≡ passing n ++ xs → (length (passing v) < length (passing n)) × (get_or (passing n) (length (passing v)) 0 ≡ v) →
          (length (passing v) < length (passing (suc n))) × (get_or (passing (suc n)) (length (passing v)) 0 ≡ v)
      appended xs more old = (
        (let long = ap length more in omega (arith, long, length-append (passing n) xs, old.0)),
        ap (λ (ys : List ℕ). get_or ys (length (passing v)) 0) more ∙ get_or_append_left (passing n) xs 0 (length (passing v)) old.0 ∙ old.1,
      )

      earlier : (v < n → (length (passing v) < length (passing n)) × (get_or (passing n) (length (passing v)) 0 ≡ v)) → (v ≡ n → ⊥) →
          (length (passing v) < length (passing (suc n))) × (get_or (passing (suc n)) (length (passing v)) 0 ≡ v)
      earlier before ne =
          let k : v < n = omega arith in
          ⊎_elim (λ (y : p n ≡ true). appended (n ∷ []) (passing_yes n y) (before k)) (λ (y : p n ≡ false). appended [] (passing_no n y) (before k)) (cases_Bool (p n))

  -- the number at index i of the list is below m and passes, and i numbers below it pass
  abbrev IsAt : ℕ → List ℕ → ℕ → Type 0
  IsAt i ys m = (get_or ys i 0 < m) × (p (get_or ys i 0) ≡ true) × (length (passing (get_or ys i 0)) ≡ i)

  pub passing_at : (n i : ℕ) → i < length (passing n) → IsAt i (passing n) n
  passing_at zero i l = absurd (omega arith)
  passing_at (suc n) i l =
      ⊎_elim (λ (y : p n ≡ true). last y (passing_yes n y) (λ k. passing_at n i k)) (λ (y : p n ≡ false). none (passing_no n y) (λ k. passing_at n i k)) (cases_Bool (p n))
    where
      within : (xs : List ℕ) → passing (suc n) ≡ passing n ++ xs → i < length (passing n) → IsAt i (passing n) n → IsAt i (passing (suc n)) (suc n)
      within xs more k old =
          let same : get_or (passing n) i 0 ≡ get_or (passing (suc n)) i 0 = sym (ap (λ (ys : List ℕ). get_or ys i 0) more ∙ get_or_append_left (passing n) xs 0 i k) in
          subst (λ (w : ℕ). (w < suc n) × (p w ≡ true) × (length (passing w) ≡ i)) same (omega (arith, old.0), old.1, old.2)

      none : passing (suc n) ≡ passing n ++ [] → (i < length (passing n) → IsAt i (passing n) n) → IsAt i (passing (suc n)) (suc n)
      none more before =
          let k : i < length (passing n) = (let long = ap length more in omega (arith, long, length-append (passing n) [], l)) in
          within [] more k (before k)

      last : p n ≡ true → passing (suc n) ≡ passing n ++ n ∷ [] → (i < length (passing n) → IsAt i (passing n) n) → IsAt i (passing (suc n)) (suc n)
      last y more before =
          ⊎_elim
          (λ (k : i < length (passing n)). within (n ∷ []) more k (before k))
          (λ (k : length (passing n) ≤ i).
          let at : length (passing n) ≡ i = (let long = ap length more in omega (arith, long, length_push (passing n) n, l)) in
          let same : n ≡ get_or (passing (suc n)) i 0 = sym (ap (λ (ys : List ℕ). get_or ys i 0) more ∙ get_or_push (passing n) n 0 i at) in
          subst (λ (w : ℕ). (w < suc n) × (p w ≡ true) × (length (passing w) ≡ i)) same (omega arith, y, at))
          (cases_lt i (length (passing n)))

module _ (classes : List (List ℕ)) where
  -- a variable that stays is at its number
  pub at_number : (v n : ℕ) → v < length classes → number_of classes v ≡ Some n → (n < length (staying classes)) × (get_or (staying classes) n 0 ≡ v)
  at_number v n l e =
      let parts = cond_some (stays classes v) (length (staying_below classes v)) n e in
      let is : length (staying_below classes v) ≡ n = parts.1 in
      let found = place_of_passing (stays classes) (length classes) v l parts.0 in
      (rw (← is) found.0, rw (← is) found.1)

  -- a variable that does not stay has no number, and one that stays has the number of those before it
  pub number_if_stays : (v : ℕ) → stays classes v ≡ true → number_of classes v ≡ Some (length (staying_below classes v))
  number_if_stays v e = cond-true (stays classes v) (Some (length (staying_below classes v))) None e

  pub none_if_left_out : (v : ℕ) → stays classes v ≡ false → number_of classes v ≡ None
  none_if_left_out v e = cond-false (stays classes v) (Some (length (staying_below classes v))) None e

  -- the variable at an index stays, and the index is its number
  pub number_at : (i : ℕ) → i < length (staying classes) → (get_or (staying classes) i 0 < length classes) × (stays classes (get_or (staying classes) i 0) ≡ true) × (number_of classes (get_or (staying classes) i 0) ≡ Some i)
  number_at i l =
      let found = passing_at (stays classes) (length classes) i l in
      (found.0, found.1, number_if_stays (get_or (staying classes) i 0) found.1 ∙ ap Some found.2)
