-- What can be tested follows from what is known to be there.
use Rattle.std.proofs.Common.{◌≡◌, ℕ, ◌<◌, ◌≤◌, Bool, true, false, Option, Some, None, refl, sym, ⊎_elim, arith, true≢false}
use Rattle.std.specs.Prelude.{IsSomeAnd}
use Rattle.std.proofs.lemmas.Grind.{not_there}
use Rattle.std.proofs.lemmas.Bool.{cases_lt}

module _ {A : Type 0} (there : ∥ A ∥₁) where
  pub told_test : (b : Bool) → (A → b ≡ true) → b ≡ true
  told_test true f = refl
  told_test false f = absurd (not_there there (λ a. true≢false (sym (f a))))

  pub told_some : {X : Type 0} (p : X → Bool) (r : Option X) → (A → IsSomeAnd r (λ x. p x ≡ true)) → IsSomeAnd r (λ x. p x ≡ true)
  told_some p None f = absurd (not_there there f)
  told_some p (Some x) f = told_test (p x) f

  pub told_at_most : (m n : ℕ) → (A → m ≤ n) → m ≤ n
  told_at_most m n f =
      ⊎_elim
      (λ (q : n < m). absurd (not_there there (λ a. let le : m ≤ n = f a in omega arith)))
      (λ (q : m ≤ n). q)
      (cases_lt n m)

  pub told_equal : (m n : ℕ) → (A → m ≡ n) → m ≡ n
  told_equal m n f =
      let le : m ≤ n = told_at_most m n (λ a. let same : m ≡ n = f a in omega arith) in
      let ge : n ≤ m = told_at_most n m (λ a. let same : m ≡ n = f a in omega arith) in omega arith
