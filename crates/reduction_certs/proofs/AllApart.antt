-- If no two values of a variable share a class, the reduced task is the task itself, but for names.
use Rattle.std.proofs.Common.{◌≡◌, ℕ, zero, suc, ◌+◌, ◌<◌, ◌≤◌, max, Bool, true, false, List, [], ◌∷◌, length, filter, get_or, Option, Some, refl, sym, ap, ◌∙◌, arith, leb, ltb, zero-add}
use Rattle.std.specs.Prelude.{All, not, option_map, slice_index}
use Rattle.std.specs.List.{range_with_len, cons_option}
use Rattle.std.proofs.lemmas.Bool.{leb-true, ltb-false, and_parts, or_right, not_from_false}
use Rattle.std.proofs.lemmas.List.{get_or_default, ext_get_or}
use Rattle.std.proofs.lemmas.List.FromFn.{length-range_with_len, get_or-range_with_len}
use Rattle.std.proofs.lemmas.List.Elements.{All-head, All-tail}
use Rattle.fdr.specs.declared.fact.Fact.{Fact}
use Rattle.fdr.specs.Tasks.{FiniteDomainTask, Operator, ranges, IsState, IsInRange}
use Rattle.abstraction_domain.specs.Rows.{class_count, shares_class, AreNumbered, numbered_from}
use Rattle.abstraction_domain.proofs.Numbering.{numbered_by_test}
use Rattle.reduction_classes.specs.Classes.{row_of, class_of, AreClassesFor, stays, staying, staying_below, number_of}
use Rattle.reduction_classes.specs.Reduced.{reduced_state, reduced_fact, reduced_facts, reduced_with}
use Rattle.reduction_classes.proofs.Staying.{number_if_stays}
use Rattle.reduction_classes.proofs.Images.{read_image, length-image}
use Rattle.reduction_classes.proofs.Runs.{as_many, row_long, read_reduced_range, length-reduced_ranges}
use Rattle.reduction_classes.proofs.Limits.{count_within}
use Rattle.reduction_certs.specs.InTask.{share_classes}
use Rattle.reduction.proofs.Members.{none_at}

-- ---- rows with as many classes as values

-- numbered classes are at most as many as the values, and if as many, each is its value
all_from : (n : ℕ) (cs : List ℕ) → numbered_from n cs ≡ true →
    (max n (class_count cs) ≤ n + length cs) × (n + length cs ≤ max n (class_count cs) → (k : ℕ) → k < length cs → slice_index cs k ≡ n + k)
all_from n [] h = (omega arith, λ many k l. absurd (omega (arith, l)))
all_from n (c ∷ cs) h =
    let parts = and_parts (leb c n) (numbered_from (max n (c + 1)) cs) h in
    let low : c ≤ n = leb-true c n parts.0 in
    let rest = all_from (max n (c + 1)) cs parts.1 in
    let most : max (max n (c + 1)) (class_count cs) ≤ max n (c + 1) + length cs = rest.0 in
    (omega (arith, low, most), at low most rest.1)
  where
    at : c ≤ n → max (max n (c + 1)) (class_count cs) ≤ max n (c + 1) + length cs →
        (max n (c + 1) + length cs ≤ max (max n (c + 1)) (class_count cs) → (k : ℕ) → k < length cs → slice_index cs k ≡ max n (c + 1) + k) →
        n + length (c ∷ cs) ≤ max n (class_count (c ∷ cs)) → (k : ℕ) → k < length (c ∷ cs) → slice_index (c ∷ cs) k ≡ n + k
    at low most rest many zero l = omega (arith, low, most, many)
    at low most rest many (suc k) l =
        let next : max n (c + 1) ≡ n + 1 = omega (arith, low, most, many) in
        let is = rest (omega (arith, low, most, many)) k (omega (arith, l)) in
        omega (arith, is, next)

each_itself : (row : List ℕ) → AreNumbered row → length row ≤ class_count row → (k : ℕ) → k < length row → slice_index row k ≡ k
each_itself row numbered many k l = (all_from 0 row ((numbered_by_test row).1 numbered)).1 (omega (arith, many)) k l ∙ zero-add k

filter_all : (p : ℕ → Bool) → ((x : ℕ) → p x ≡ true) → (xs : List ℕ) → filter p xs ≡ xs
filter_all p h [] = refl
filter_all p h (x ∷ xs) = rw (h x) (ap (λ (ys : List ℕ). x ∷ ys) (filter_all p h xs))

module _ (task : FiniteDomainTask) (classes : List (List ℕ)) (fit : AreClassesFor (ranges task) classes) (numbered : All AreNumbered classes) (apart : share_classes classes ≡ false) where
  all_stay : (v : ℕ) → stays classes v ≡ true
  all_stay v = or_right (ltb 1 (class_count (row_of classes v))) (not (share_classes classes)) (not_from_false (share_classes classes) apart)

  below_all : (n : ℕ) → staying_below classes n ≡ range_with_len 0 n
  below_all n = filter_all (stays classes) all_stay (range_with_len 0 n)

  number_is : (v : ℕ) → number_of classes v ≡ Some v
  number_is v = number_if_stays classes v (all_stay v) ∙ ap (λ (xs : List ℕ). Some (length xs)) (below_all v) ∙ ap Some (length-range_with_len 0 v)

  staying_at : (i : ℕ) → i < length classes → get_or (staying classes) i 0 ≡ i
  staying_at i l = ap (λ (xs : List ℕ). get_or xs i 0) (below_all (length classes)) ∙ get_or-range_with_len 0 (length classes) i 0 l ∙ zero-add i

  length-staying : length (staying classes) ≡ length classes
  length-staying = ap (λ (xs : List ℕ). length xs) (below_all (length classes)) ∙ length-range_with_len 0 (length classes)

  many : (v : ℕ) → v < length classes → length (row_of classes v) ≤ class_count (row_of classes v)
  many v l =
      ltb-false (class_count (row_of classes v)) (length (row_of classes v))
      (none_at shares_class classes (row_of classes v) apart (v, l, get_or_default classes v (row_of classes v) [] l))

  class_is : (v x : ℕ) → v < length classes → x < slice_index (ranges task) v → class_of classes v x ≡ x
  class_is v x l k = each_itself (row_of classes v) (numbered v [] l) (many v l) x (omega (arith, k, row_long task classes fit v l))

  -- the ranges are those of the task
  pub ranges_same : (ops : List Operator) → ranges task ≡ ranges (reduced_with classes task ops)
  ranges_same ops =
      ext_get_or 0 (ranges task) (ranges (reduced_with classes task ops))
      (omega (arith, as_many task classes fit, length-staying, length-reduced_ranges task classes fit ops))
      (λ v l.
      let within : v < length classes = omega (arith, l, as_many task classes fit) in
      let read = read_reduced_range task classes fit ops v (omega (arith, within, length-staying)) in
      let here : class_count (row_of classes (get_or (staying classes) v 0)) ≡ class_count (row_of classes v) = ap (λ (w : ℕ). class_count (row_of classes w)) (staying_at v within) in
      let few = count_within (row_of classes v) (numbered v [] within) in
      omega (arith, read, here, few, many v within, row_long task classes fit v within))

  -- states are their images
  pub state_same : (s : List ℕ) → IsState (ranges task) s → s ≡ reduced_state classes s
  state_same s is =
      ext_get_or 0 s (reduced_state classes s) (omega (arith, is.as_long, as_many task classes fit, length-staying, length-image classes s))
      (λ v l.
      let within : v < length classes = omega (arith, l, is.as_long, as_many task classes fit) in
      let exists : v < length (ranges task) = omega (arith, l, is.as_long) in
      sym (read_image classes s v v within (number_is v) ∙ class_is v (slice_index s v) within (is.in_range v exists)))

  fact_same : (f : Fact) → IsInRange (ranges task) f → reduced_fact classes f ≡ Some f
  fact_same f is =
      ap (option_map (λ n. record { variable = n; value = class_of classes f.variable f.value })) (number_is f.variable)
      ∙ ap (λ (x : ℕ). Some (record { variable = f.variable; value = x })) (class_is f.variable f.value (omega (arith, is.0, as_many task classes fit)) is.1)

  -- facts are their images
  pub facts_same : (fs : List Fact) → All (IsInRange (ranges task)) fs → fs ≡ reduced_facts classes fs
  facts_same [] all = refl
  facts_same (f ∷ fs) all =
      ap (λ (gs : List Fact). f ∷ gs) (facts_same fs (All-tail (IsInRange (ranges task)) f fs all))
      ∙ sym (ap (λ (r : Option Fact). cons_option r (reduced_facts classes fs)) (fact_same f (All-head (IsInRange (ranges task)) f fs all)))
