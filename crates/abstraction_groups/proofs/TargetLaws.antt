-- All operators of a group reach the same abstract state.
use Rattle.std.proofs.Common.{◌≡◌, ℕ, ◌<◌, Option, Some, None, refl, sym, ◌∙◌, subst}
use Rattle.std.specs.Prelude.{IfSome}
use Rattle.abstraction.specs.Abstractions.{Abstraction}
use Rattle.abstraction_groups.specs.Entrances.{Classes, AreClasses}

module _ (a : Abstraction) (classes : Classes) (are : AreClasses a classes) (below : (i o : ℕ) → i < a.size → IfSome (a.transition i o) (λ j. j < a.size)) where
  pub same_target : (o p c i : ℕ) → classes.class o ≡ Some c → classes.class p ≡ Some c → i < a.size → a.transition i o ≡ a.transition i p
  same_target o p c i e q l = go (a.transition i o) refl (a.transition i p) refl
    where
      within : (n j : ℕ) → a.transition i n ≡ Some j → j < a.size
      within n j h = subst (λ (r : Option ℕ). IfSome r (λ j. j < a.size)) h (below i n l)

      go : (r : Option ℕ) → a.transition i o ≡ r → (s : Option ℕ) → a.transition i p ≡ s → r ≡ s
      go None h None k = refl
      go None h (Some j) k = let reached = (are.alike p o c i j q e (within p j k) (l, k)).1 in absurd (cc)
      go (Some j) h s k = sym ((are.alike o p c i j e q (within o j h) (l, h)).1) ∙ k
