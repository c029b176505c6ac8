-- The operators that affect an abstraction are classes of operators with the same transitions.
use Rattle.std.specs.Prelude.{◌↔◌, ◌==◌, Contains, IfSome, slice_index}
use Rattle.std.specs.List.{filter, position, range_with_len}
use Rattle.std.specs.List.Sorted.{IsStrictlyIncreasing}
use Rattle.std.proofs.Common.{◌≡◌, ℕ, ◌+◌, ◌<◌, ◌≤◌, Bool, true, false, List, [], ◌∷◌, length, cond, eqb, eq-eqb, ne_eqb, Option, Some, None, refl, sym, ap, ◌∙◌, subst, ⊎_elim, arith}
use Rattle.std.proofs.lemmas.Bool.{cases_lt, eqb-true, lt-ltb}
use Rattle.std.proofs.lemmas.List.{get_or_default}
use Rattle.std.proofs.lemmas.List.Elements.{Contains-append_right}
use Rattle.std.proofs.lemmas.List.FromFn.{length-range_with_len, get_or-range_with_len}
use Rattle.std.proofs.lemmas.List.Kept.{AllPairs-from_increasing, IsStrictlyIncreasing-filter}
use Rattle.std.proofs.lemmas.List.Quantifiers.{position-Some}
use Rattle.std.proofs.lemmas.List.Sums.{position_or_len_is}
use Rattle.fdr.specs.Tasks.{FiniteDomainTask}
use Rattle.abstraction.specs.Abstractions.{Abstraction, IsAbstractionOf}
use Rattle.abstraction_groups.specs.Entrances.{LeadsTo, AreClasses}
use Rattle.abstraction_groups.proofs.PairLaws.{Contains-cons_cases, Contains-here}
use Rattle.abstraction_listed.specs.Affecting.{affecting, single_classes}

-- ---- lists of numbers

-- the index of a number in a strictly increasing list
pub index_told : (xs : List ℕ) → IsStrictlyIncreasing xs → (o c : ℕ) →
    (position (λ p. p == o) xs ≡ Some c) ↔ ((c < length xs) × (slice_index xs c ≡ o))
index_told xs up o c = (
  λ e. let found = position-Some (λ p. eqb p o) xs c 0 e in (found.0, eqb-true (slice_index xs c) o found.1),
  λ h.
      let l = h.0 in
      let first = position_or_len_is (λ p. eqb p o) xs c 0 (omega arith)
      (λ k m.
      ne_eqb (slice_index xs k) o
      (λ q. let less : slice_index xs k < slice_index xs c = AllPairs-from_increasing xs up k c 0 m l in let is = h.1 in absurd (omega arith)))
      (λ _. eq-eqb (slice_index xs c) o h.1) in
      rw (first, lt-ltb c (length xs) l) refl,
)

contains_passing : (p : ℕ → Bool) (xs : List ℕ) (x : ℕ) → p x ≡ true → Contains xs x → Contains (filter p xs) x
contains_passing p [] x e h = let l = h.1 in absurd (omega arith)
contains_passing p (y ∷ ys) x e h =
    ⊎_elim
    (λ (s : y ≡ x).
    let passes : p y ≡ true = ap p s ∙ e in
    rw passes (subst (λ (z : ℕ). Contains (y ∷ filter p ys) z) s (Contains-here y (filter p ys))))
    (λ (s : Contains ys x). go (p y) (contains_passing p ys x e s))
    (Contains-cons_cases y ys x h)
  where
    go : (b : Bool) → Contains (filter p ys) x → Contains (cond b (y ∷ filter p ys) (filter p ys)) x
    go true r = Contains-append_right (y ∷ []) (filter p ys) x r
    go false r = r

-- ---- the classes

module _ (task : FiniteDomainTask) (a : Abstraction) where
  abbrev count : ℕ
  count = length task.operators

  pub affecting_increase : IsStrictlyIncreasing (affecting task a)
  affecting_increase =
      IsStrictlyIncreasing-filter a.touches (range_with_len 0 count)
      (λ k l.
      let long = length-range_with_len 0 count in
      let here = get_or-range_with_len 0 count k 0 (omega arith) in
      let next = get_or-range_with_len 0 count (k + 1) 0 (omega arith) in
      omega arith)

  -- the operator of a class
  pub class_told : (o c : ℕ) → ((single_classes task a).class o ≡ Some c) ↔ ((c < length (affecting task a)) × (slice_index (affecting task a) c ≡ o))
  class_told o c = index_told (affecting task a) affecting_increase o c

  -- an operator that affects the abstraction has a class
  has_class : (o : ℕ) → o < count → a.touches o ≡ true → (c : ℕ) × ((single_classes task a).class o ≡ Some c)
  has_class o l e =
      let among : Contains (range_with_len 0 count) o = (o, (let long = length-range_with_len 0 count in omega arith), (get_or-range_with_len 0 count o o l ∙ (omega arith))) in
      let has = contains_passing a.touches (range_with_len 0 count) o e among in
      (has.0, (class_told o has.0).1 (has.1, get_or_default (affecting task a) has.0 0 o has.1 ∙ has.2))

  pub single_grouped : IsAbstractionOf task a → AreClasses a (single_classes task a)
  single_grouped is =
      record {
        below = λ o c e. ((class_told o c).0 e).0;
        alike = λ o p c i j e f l step.
            let same : o ≡ p = sym ((class_told o c).0 e).1 ∙ ((class_told p c).0 f).1 in
            subst (λ (q : ℕ). LeadsTo a q i j) same step;
        others = λ o i j e l step.
            ⊎_elim
            (λ (m : o < count). go o i j e step m (a.touches o) refl)
            (λ (m : count ≤ o). let none = is.operators i o m in let some = step.1 in absurd (cc))
            (cases_lt o count);
      }
    where
      go : (o i j : ℕ) → (single_classes task a).class o ≡ None → LeadsTo a o i j → o < count → (b : Bool) → a.touches o ≡ b → i ≡ j
      go o i j e step m true t = let has = (has_class o m t).1 in absurd (cc)
      go o i j e step m false t = sym (subst (λ (r : Option ℕ). IfSome r (λ k. k ≡ i)) step.1 (is.untouched i o step.0 t))
