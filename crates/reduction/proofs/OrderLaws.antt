-- Facts by strictly increasing variables: the order is determined by the set of facts.
use Rattle.std.proofs.Common.{◌≡◌, ℕ, zero, suc, ◌+◌, ◌<◌, List, [], ◌∷◌, map, refl, sym, ap, subst, ◌∙◌, arith, inl, inr, ⊎_elim}
use Rattle.std.specs.Prelude.{◌⊎◌, Contains}
use Rattle.std.specs.List.Sorted.{IsStrictlyIncreasing}
use Rattle.fdr.specs.declared.fact.Fact.{Fact}
use Rattle.fdr.specs.Tasks.{Operator}
use Rattle.reduction_classes.specs.Reduced.{reduced_facts}
use Rattle.reduction.specs.Retained.{SameFacts, AreEqual}
use Rattle.reduction.specs.Images.{IsImageOf}
use Rattle.reduction.proofs.Members.{none_in, Contains-here, Contains-there, Contains-cases}

increasing_tail : (x : Fact) (xs : List Fact) → IsStrictlyIncreasing (map (λ f. f.variable) (x ∷ xs)) → IsStrictlyIncreasing (map (λ f. f.variable) xs)
increasing_tail x xs h k l =
    let step : suc k + 1 ≡ suc (k + 1) = omega arith in
    rw step at (h (suc k) (omega arith))

-- the first variable is below all others
first_below : (x : Fact) (xs : List Fact) → IsStrictlyIncreasing (map (λ f. f.variable) (x ∷ xs)) → (f : Fact) → Contains xs f → x.variable < f.variable
first_below x [] h f c = absurd (none_in f c)
first_below x (y ∷ ys) h f c =
    let next : x.variable < y.variable = h zero (omega arith) in
    ⊎_elim
    (λ (e : y ≡ f). subst (λ (g : Fact). x.variable < g.variable) e next)
    (λ (d : Contains ys f). let later = first_below y ys (increasing_tail x (y ∷ ys) h) f d in omega (arith, next, later))
    (Contains-cases y f ys c)

pub one_order : (xs ys : List Fact) → IsStrictlyIncreasing (map (λ f. f.variable) xs) → IsStrictlyIncreasing (map (λ f. f.variable) ys) → SameFacts xs ys → xs ≡ ys
one_order [] [] hx hy same = refl
one_order [] (y ∷ ys) hx hy same = absurd (none_in y ((same y).1 (Contains-here y ys)))
one_order (x ∷ xs) [] hx hy same = absurd (none_in x ((same x).0 (Contains-here x xs)))
one_order (x ∷ xs) (y ∷ ys) hx hy same =
    let first : x ≡ y = heads (Contains-cases y x ys ((same x).0 (Contains-here x xs))) (Contains-cases x y xs ((same y).1 (Contains-here y ys))) in
    let rest : xs ≡ ys = one_order xs ys (increasing_tail x xs hx) (increasing_tail y ys hy) (λ f. (forth first f, back first f)) in
    ap (λ (z : Fact). z ∷ xs) first ∙ ap (λ (zs : List Fact). y ∷ zs) rest
  where
    heads : (y ≡ x) ⊎ Contains ys x → (x ≡ y) ⊎ Contains xs y → x ≡ y
    heads (inl e) c = sym e
    heads (inr d) (inl e) = e
    heads (inr d) (inr e) =
        let low = first_below x xs hx y e in
        let high = first_below y ys hy x d in absurd (omega (arith, low, high))

    forth : x ≡ y → (f : Fact) → Contains xs f → Contains ys f
    forth e f c =
        ⊎_elim
        (λ (q : y ≡ f). let low = first_below x xs hx f c in let v : x.variable ≡ f.variable = ap (λ (g : Fact). g.variable) (e ∙ q) in absurd (omega (arith, low, v)))
        (λ (d : Contains ys f). d)
        (Contains-cases y f ys ((same f).0 (Contains-there x f xs c)))

    back : x ≡ y → (f : Fact) → Contains ys f → Contains xs f
    back e f c =
        ⊎_elim
        (λ (q : x ≡ f). let low = first_below y ys hy f c in let v : y.variable ≡ f.variable = ap (λ (g : Fact). g.variable) (sym e ∙ q) in absurd (omega (arith, low, v)))
        (λ (d : Contains xs f). d)
        (Contains-cases x f xs ((same f).1 (Contains-there y f ys c)))

same_sym : (xs ys : List Fact) → SameFacts xs ys → SameFacts ys xs
same_sym xs ys same f = ((same f).1, (same f).0)

same_trans : (xs ys zs : List Fact) → SameFacts xs ys → SameFacts ys zs → SameFacts xs zs
same_trans xs ys zs a b f = (λ h. (b f).0 ((a f).0 h), λ h. (a f).1 ((b f).1 h))

-- operators with one image are equal
pub equal_by_image : (classes : List (List ℕ)) (a b : Operator) (p e : List Fact) → IsImageOf classes a p e → IsImageOf classes b p e → AreEqual classes a b
equal_by_image classes a b p e one two =
    record {
      precondition = same_trans (reduced_facts classes a.precondition) p (reduced_facts classes b.precondition) one.conditions.same (same_sym (reduced_facts classes b.precondition) p two.conditions.same);
      effect = same_trans (reduced_facts classes a.effect) e (reduced_facts classes b.effect) one.effects.same (same_sym (reduced_facts classes b.effect) e two.effects.same);
    }

-- an equal operator has the same image
pub image_by_equal : (classes : List (List ℕ)) (a b : Operator) (p e : List Fact) → IsImageOf classes a p e → AreEqual classes a b → IsImageOf classes b p e
image_by_equal classes a b p e one equal =
    record {
      conditions = record {
        same = same_trans (reduced_facts classes b.precondition) (reduced_facts classes a.precondition) p (same_sym (reduced_facts classes a.precondition) (reduced_facts classes b.precondition) equal.precondition) one.conditions.same;
        increasing = one.conditions.increasing;
      };
      effects = record {
        same = same_trans (reduced_facts classes b.effect) (reduced_facts classes a.effect) e (same_sym (reduced_facts classes a.effect) (reduced_facts classes b.effect) equal.effect) one.effects.same;
        increasing = one.effects.increasing;
      };
    }

-- an operator has one image
pub one_image : (classes : List (List ℕ)) (a : Operator) (p e q f : List Fact) → IsImageOf classes a p e → IsImageOf classes a q f → (p ≡ q) × (e ≡ f)
one_image classes a p e q f one two = (
  one_order p q one.conditions.increasing two.conditions.increasing (same_trans p (reduced_facts classes a.precondition) q (same_sym (reduced_facts classes a.precondition) p one.conditions.same) two.conditions.same),
  one_order e f one.effects.increasing two.effects.increasing (same_trans e (reduced_facts classes a.effect) f (same_sym (reduced_facts classes a.effect) e one.effects.same) two.effects.same),
)
