-- The operators that affect an abstraction, one operator after another.
use Rattle.std.specs.Prelude.{◌↔◌, Contains, slice_index}
use Rattle.std.specs.List.{filter, range_with_len, slice_range}
use Rattle.std.proofs.Common.{◌≡◌, ℕ, ◌+◌, ◌-◌, ◌<◌, ◌≤◌, Bool, true, false, List, [], ◌∷◌, ◌++◌, length, take, drop, drop-cons, cond, Some, sym, ap, ◌∙◌, subst, ⊎_elim, arith}
use Rattle.std.proofs.lemmas.List.{append-nil, map-id}
use Rattle.std.proofs.lemmas.List.Elements.{Contains-push, Contains-push_cases}
use Rattle.std.proofs.lemmas.List.FromFn.{filter_of_map_range_with_len_more, length-range_with_len}
use Rattle.std.proofs.lemmas.List.Sums.{length-filter, count_by-le-length}
use Rattle.fdr.specs.Tasks.{FiniteDomainTask}
use Rattle.abstraction.specs.Abstractions.{Abstraction}
use Rattle.abstraction_listed.specs.Affecting.{affecting, single_classes}
use Rattle.abstraction_listed.specs.AffectingLaws.{class_told}

module _ (p : ℕ → Bool) (n : ℕ) where
  -- the numbers below n that pass, and then n
  one_more : filter p (range_with_len 0 (n + 1)) ≡ filter p (range_with_len 0 n) ++ cond (p n) (n ∷ []) []
  one_more =
      ap (filter p) (sym (map-id (range_with_len 0 (n + 1))))
      ∙ filter_of_map_range_with_len_more p (λ (x : ℕ). x) 0 n n (omega arith)
      ∙ ap (λ (xs : List ℕ). filter p xs ++ cond (p n) (n ∷ []) []) (map-id (range_with_len 0 n))

  pub number_added : (xs : List ℕ) → p n ≡ true → xs ≡ filter p (range_with_len 0 n) → xs ++ n ∷ [] ≡ filter p (range_with_len 0 (n + 1))
  number_added xs e before = ap (λ (ys : List ℕ). ys ++ n ∷ []) before ∙ sym (one_more ∙ ap (λ (b : Bool). filter p (range_with_len 0 n) ++ cond b (n ∷ []) []) e)

  pub number_left_out : (xs : List ℕ) → p n ≡ false → xs ≡ filter p (range_with_len 0 n) → xs ≡ filter p (range_with_len 0 (n + 1))
  number_left_out xs e before =
      before ∙ sym (one_more ∙ ap (λ (b : Bool). filter p (range_with_len 0 n) ++ cond b (n ∷ []) []) e ∙ append-nil (filter p (range_with_len 0 n)))

pub affecting_few : (task : FiniteDomainTask) (a : Abstraction) → length (affecting task a) ≤ length task.operators
affecting_few task a =
    let all = range_with_len 0 (length task.operators) in
    omega (arith, length-filter a.touches all, count_by-le-length a.touches all, length-range_with_len 0 (length task.operators))

-- ---- the operators of a class

one_element : (xs : List ℕ) (c : ℕ) → c < length xs → slice_range xs c (c + 1) ≡ slice_index xs c ∷ []
one_element xs c l =
    let count : c + 1 - c ≡ 1 = omega arith in
    ap (λ (n : ℕ). take n (drop c xs)) count ∙ ap (take 1) (drop-cons xs c 0 l)

pub one_operator : (task : FiniteDomainTask) (a : Abstraction) (c : ℕ) → c < length (affecting task a) → (o : ℕ) →
    Contains (slice_range (affecting task a) c (c + 1)) o ↔ ((single_classes task a).class o ≡ Some c)
one_operator task a c l o = (
  λ h.
      ⊎_elim
      (λ (q : Contains [] o). let none = q.1 in absurd (omega arith))
      (λ (q : first ≡ o). (class_told task a o c).1 (l, q))
      (Contains-push_cases [] first o (subst (λ (xs : List ℕ). Contains xs o) one h)),
  λ e.
      let is : first ≡ o = ((class_told task a o c).0 e).1 in
      subst (λ (xs : List ℕ). Contains xs o) (sym one) (subst (λ (x : ℕ). Contains (first ∷ []) x) is (Contains-push [] first)),
)
  where
    first : ℕ
    first = slice_index (affecting task a) c

    one : slice_range (affecting task a) c (c + 1) ≡ first ∷ []
    one = one_element (affecting task a) c l
