-- Facts that were sorted by their variables.
use Rattle.std.proofs.Common.{◌≡◌, ℕ, zero, suc, ◌+◌, ◌<◌, ◌≤◌, Bool, true, false, List, [], ◌∷◌, length, map, get_or, replicate, refl, sym, ap, subst, ◌∙◌, arith, cond, eqb, ⊎_elim}
use Rattle.std.specs.Prelude.{not, sum_by}
use Rattle.std.specs.List.Sorted.{IsPermutation, IsNonDecreasingBy, IsStrictlyIncreasing}
use Rattle.std.proofs.lemmas.Bool.{eqb-true, eq-eqb, and_parts, or_parts, not-true, cases_eq, cases_Bool}
use Rattle.std.proofs.lemmas.List.{length-map, get_or-map, length-replicate}
use Rattle.std.proofs.lemmas.List.Sums.{sum_by-cons}
use Rattle.std.proofs.lemmas.List.Sorted.{Contains-permutation, IsPermutation-sym, sum_by-IsPermutation}
use Rattle.fdr.specs.declared.fact.Fact.{Fact}
use Rattle.fdr.specs.Tasks.{FiniteDomainTask, ranges, IsAssignment, names_variable, are_distinct}
use Rattle.reduction_classes.specs.Reduced.{reduced_facts}
use Rattle.reduction_classes.proofs.Runs.{image_is_assignment}
use Rattle.reduction.specs.Images.{IsOrdered}

-- the number of facts on a variable
abbrev one_if : Bool → ℕ
one_if b = cond b 1 0

abbrev on : ℕ → Fact → ℕ
on v f = one_if (eqb f.variable v)

none_counted : (fs : List Fact) (v : ℕ) → names_variable fs v ≡ false → sum_by (on v) fs ≡ 0
none_counted [] v h = refl
none_counted (f ∷ fs) v h =
    let parts = or_parts (eqb f.variable v) (names_variable fs v) h in
    let here : on v f ≡ 0 = ap one_if parts.0 in omega (arith, sum_by-cons (on v) f fs, here, none_counted fs v parts.1)

at_most_one : (fs : List Fact) (v : ℕ) → are_distinct fs ≡ true → sum_by (on v) fs ≤ 1
at_most_one [] v d = omega arith
at_most_one (f ∷ fs) v d =
    let parts = and_parts (not (names_variable fs f.variable)) (are_distinct fs) d in
    ⊎_elim
    (λ (e : eqb f.variable v ≡ true).
    let unnamed : names_variable fs v ≡ false = subst (λ (w : ℕ). names_variable fs w ≡ false) (eqb-true f.variable v e) (not-true (names_variable fs f.variable) parts.0) in
    let here : on v f ≡ 1 = ap one_if e in omega (arith, sum_by-cons (on v) f fs, here, none_counted fs v unnamed))
    (λ (e : eqb f.variable v ≡ false). let here : on v f ≡ 0 = ap one_if e in omega (arith, sum_by-cons (on v) f fs, here, at_most_one fs v parts.1))
    (cases_Bool (eqb f.variable v))

-- neighbours on one variable are counted twice
two_counted : (fs : List Fact) (v k : ℕ) (d : Fact) → k + 1 < length fs → (get_or fs k d).variable ≡ v → (get_or fs (k + 1) d).variable ≡ v → 2 ≤ sum_by (on v) fs
two_counted [] v k d l a b = absurd (omega arith)
two_counted (f ∷ []) v zero d l a b = absurd (omega arith)
two_counted (f ∷ g ∷ gs) v zero d l a b =
    let first : on v f ≡ 1 = ap one_if (eq-eqb f.variable v a) in
    let second : on v g ≡ 1 = ap one_if (eq-eqb g.variable v b) in omega (arith, sum_by-cons (on v) f (g ∷ gs), sum_by-cons (on v) g gs, first, second)
two_counted (f ∷ fs) v (suc k) d l a b =
    let step : suc k + 1 ≡ suc (k + 1) = omega arith in
    let next : (get_or fs (k + 1) d).variable ≡ v = subst (λ (n : ℕ). (get_or (f ∷ fs) n d).variable ≡ v) step b in
    let more = two_counted fs v k d (omega arith) a next in omega (arith, sum_by-cons (on v) f fs, more)

pub ordered_by_sort : (xs ys : List Fact) → IsPermutation xs ys → are_distinct xs ≡ true → IsNonDecreasingBy (λ f. f.variable) ys → IsOrdered xs ys
ordered_by_sort xs ys moved distinct rising =
    record {
      same = λ f. (λ h. Contains-permutation xs ys f moved h, λ h. Contains-permutation ys xs f (IsPermutation-sym xs ys moved) h);
      increasing = increasing;
    }
  where
    first : Fact
    first = record { variable = 0; value = 0 }

    increasing : IsStrictlyIncreasing (map (λ f. f.variable) ys)
    increasing k l =
        let within : k + 1 < length ys = omega (arith, l, length-map ys (λ (f : Fact). f.variable)) in
        let low : get_or (map (λ (f : Fact). f.variable) ys) k 0 ≡ (get_or ys k first).variable = get_or-map (λ (f : Fact). f.variable) ys k first 0 (omega arith) in
        let high : get_or (map (λ (f : Fact). f.variable) ys) (k + 1) 0 ≡ (get_or ys (k + 1) first).variable = get_or-map (λ (f : Fact). f.variable) ys (k + 1) first 0 within in
        let up : (get_or ys k first).variable ≤ (get_or ys (k + 1) first).variable = rising k (k + 1) first (omega arith) within in
        let ne : (get_or ys k first).variable ≡ (get_or ys (k + 1) first).variable → ⊥ =
        λ (e : (get_or ys k first).variable ≡ (get_or ys (k + 1) first).variable).
        let two = two_counted ys (get_or ys (k + 1) first).variable k first within e refl in
        let same = sum_by-IsPermutation (on (get_or ys (k + 1) first).variable) xs ys moved in
        let one = at_most_one xs (get_or ys (k + 1) first).variable distinct in absurd (omega (arith, two, same, one)) in
        ⊎_elim
        (λ (e : (get_or ys k first).variable ≡ (get_or ys (k + 1) first).variable). absurd (ne e))
        (λ (n : (get_or ys k first).variable ≡ (get_or ys (k + 1) first).variable → ⊥). omega (arith, low, high, up, n))
        (cases_eq (get_or ys k first).variable (get_or ys (k + 1) first).variable)

-- a task with these ranges
abbrev task_with : List (List ℕ) → FiniteDomainTask
task_with classes = record { metric = false; value_names = map (λ (row : List ℕ). replicate {A = List ℕ} (length row) []) classes; initial = []; goal = []; operators = [] }

task_ranges : (classes : List (List ℕ)) → map (length {A = ℕ}) classes ≡ ranges (task_with classes)
task_ranges [] = refl
task_ranges (row ∷ rows) =
    ap (λ (ns : List ℕ). length row ∷ ns) (task_ranges rows) ∙ ap (λ (n : ℕ). n ∷ ranges (task_with rows)) (sym (length-replicate {A = List ℕ} (length row) []))

-- no two images of an assignment's facts are on one variable
pub images_distinct : (classes : List (List ℕ)) (facts : List Fact) → IsAssignment (map length classes) facts → are_distinct (reduced_facts classes facts) ≡ true
images_distinct classes facts is =
    (image_is_assignment (task_with classes) classes (task_ranges classes) [] facts (subst (λ (rs : List ℕ). IsAssignment rs facts) (task_ranges classes) is)).distinct
