-- The first that fails among those that were kept.
use Rattle.std.proofs.Common.{◌≡◌, ◌⊎◌, ℕ, zero, suc, ◌+◌, ◌<◌, ◌≤◌, Bool, true, false, filter, Option, Some, None, arith, inl, inr}
use Rattle.std.specs.Prelude.{not, MatchOption}
use Rattle.std.specs.List.{find, range_with_len}
use Rattle.std.proofs.lemmas.Bool.{cases_Bool, cases_eq}

module _ (test kept : ℕ → Bool) (others : (x : ℕ) → kept x ≡ false → test x ≡ true) where
  -- what the search tells of the numbers from a on, below a + n
  abbrev Tells : ℕ → ℕ → Option ℕ → Type 0
  Tells a n r =
      MatchOption r ((x : ℕ) → a ≤ x → x < a + n → test x ≡ true) (λ o. (test o ≡ false) × ((x : ℕ) → a ≤ x → x < o → test x ≡ true))

  passes_on : (a n : ℕ) (r : Option ℕ) → test a ≡ true → Tells (a + 1) n r → Tells a (suc n) r
  passes_on a n None e h = λ x l k. either x (cases_eq a x) l k
    where
      either : (x : ℕ) → (a ≡ x) ⊎ (a ≡ x → ⊥) → a ≤ x → x < a + suc n → test x ≡ true
      either x (inl q) l k = rw (← q) e
      either x (inr q) l k = h x (omega arith) (omega arith)
  passes_on a n (Some o) e h = (h.0, λ x l k. either x (cases_eq a x) l k)
    where
      either : (x : ℕ) → (a ≡ x) ⊎ (a ≡ x → ⊥) → a ≤ x → x < o → test x ≡ true
      either x (inl q) l k = rw (← q) e
      either x (inr q) l k = h.1 x (omega arith) k

  pub search : (a n : ℕ) → Tells a n (find (λ x. not (test x)) (filter kept (range_with_len a n)))
  search a zero = λ x l k. absurd (omega arith)
  search a (suc n) = split (cases_Bool (kept a)) (cases_Bool (test a)) (search (a + 1) n)
    where
      split : (kept a ≡ true) ⊎ (kept a ≡ false) → (test a ≡ true) ⊎ (test a ≡ false) → Tells (a + 1) n (find (λ x. not (test x)) (filter kept (range_with_len (a + 1) n)))
          → Tells a (suc n) (find (λ x. not (test x)) (filter kept (range_with_len a (suc n))))
      split (inr k) t h = rw k (passes_on a n (find (λ x. not (test x)) (filter kept (range_with_len (a + 1) n))) (others a k) h)
      split (inl k) (inl t) h = rw (k, t) (passes_on a n (find (λ x. not (test x)) (filter kept (range_with_len (a + 1) n))) t h)
      split (inl k) (inr t) h = rw (k, t) (t, λ x l m. absurd (omega arith))
