-- The reduced task is within the limits.
use Rattle.std.proofs.Common.{◌≡◌, ℕ, zero, suc, ◌+◌, ◌<◌, ◌≤◌, max, Bool, true, false, List, [], ◌∷◌, ◌++◌, length, map, take, Option, Some, None, refl, sym, ap, subst, ◌∙◌, arith, cond, get_or, replicate, filter, leb, ltb, add-one}
use Rattle.std.specs.Prelude.{IfSome, slice_get, All, Vec, String}
use Rattle.std.specs.List.{range_with_len, cons_option}
use Rattle.std.proofs.lemmas.Bool.{leb-true, ltb-false, le-ltb, and_parts, or_parts, or_from, false≢true}
use Rattle.std.proofs.lemmas.Option.{slice_get-get_or}
use Rattle.std.proofs.lemmas.List.{length-map, length-replicate, get_or-map, take_more, take_all}
use Rattle.std.proofs.lemmas.List.FromFn.{length-range_with_len, get_or-range_with_len}
use Rattle.std.proofs.lemmas.List.Elements.{All-nil, All-cons, All-head, All-tail, filter_map-append}
use Rattle.fdr.specs.Limits.{max_values, max_operators}
use Rattle.fdr.specs.Tasks.{FiniteDomainTask, Operator, ranges, has_long_range, IsWithinLimits, IsPastLimit, names_in, task_of}
use Rattle.fdr.specs.declared.fact.Fact.{Fact}
use Rattle.fdr.specs.declared.task.TaskLimit.{TaskLimit}
use Rattle.fdr.specs.declared.task.TaskLimit.TheVariants.{Variables, Values, Operators}
use Rattle.abstraction.specs.Steps.{found}
use Rattle.abstraction_domain.specs.Rows.{class_count, AreNumbered, numbered_from}
use Rattle.abstraction_domain.proofs.Numbering.{numbered_by_test}
use Rattle.reduction_classes.specs.Classes.{row_of, AreClassesFor, staying, stays}
use Rattle.reduction_classes.specs.Reduced.{reduced_state, reduced_facts, reduced_operator, reduced_with, chosen}
use Rattle.reduction_classes.proofs.Staying.{range_more, number_at}
use Rattle.reduction_classes.proofs.Runs.{as_many, row_long}

-- numbered classes are at most as many as the values
count_from : (n : ℕ) (cs : List ℕ) → numbered_from n cs ≡ true → max n (class_count cs) ≤ n + length cs
count_from n [] h = omega arith
count_from n (c ∷ cs) h =
    let parts = and_parts (leb c n) (numbered_from (max n (c + 1)) cs) h in
    let low : c ≤ n = leb-true c n parts.0 in
    let rest = count_from (max n (c + 1)) cs parts.1 in
    omega (arith, low, rest)

pub count_within : (cs : List ℕ) → AreNumbered cs → class_count cs ≤ length cs
count_within cs h = let most = count_from 0 cs ((numbered_by_test cs).1 h) in omega (arith, most)

-- all operators are those with the numbers from 0 on
chosen_first : (ops : List Operator) (n : ℕ) → n ≤ length ops → chosen ops (range_with_len 0 n) ≡ take n ops
chosen_first ops zero l = refl
chosen_first ops (suc n) l =
    let before = chosen_first ops n (omega arith) in
    let within : n < length ops = omega arith in
    subst (λ (k : ℕ). chosen ops (range_with_len 0 k) ≡ take k ops) (add-one n) (more before within)
  where
    more : chosen ops (range_with_len 0 n) ≡ take n ops → n < length ops → chosen ops (range_with_len 0 (n + 1)) ≡ take (n + 1) ops
    more before within =
        let op : Operator = record { name = []; precondition = []; effect = []; cost = 0 } in
        ap (chosen ops) (range_more n)
        ∙ filter_map-append (slice_get ops) (range_with_len 0 n) (n ∷ [])
        ∙ ap (λ (xs : List Operator). xs ++ chosen ops (n ∷ [])) before
        ∙ ap (λ (r : Option Operator). take n ops ++ cons_option r []) (slice_get-get_or ops n op within)
        ∙ sym (take_more ops n op within)

pub chosen_all : (ops : List Operator) → chosen ops (range_with_len 0 (length ops)) ≡ ops
chosen_all ops = chosen_first ops (length ops) (omega arith) ∙ take_all (length ops) ops (omega arith)

length-filter_le : (p : ℕ → Bool) (xs : List ℕ) → length (filter p xs) ≤ length xs
length-filter_le p [] = omega arith
length-filter_le p (x ∷ xs) = go (p x) (length-filter_le p xs)
  where
    go : (b : Bool) → length (filter p xs) ≤ length xs → length (cond b (x ∷ filter p xs) (filter p xs)) ≤ suc (length xs)
    go true h = omega arith
    go false h = omega arith

pub length-chosen_le : (ops : List Operator) (ns : List ℕ) → length (chosen ops ns) ≤ length ns
length-chosen_le ops [] = omega arith
length-chosen_le ops (n ∷ ns) = go (slice_get ops n) (length-chosen_le ops ns)
  where
    go : (r : Option Operator) → length (chosen ops ns) ≤ length ns → length (cons_option r (chosen ops ns)) ≤ suc (length ns)
    go None h = omega arith
    go (Some op) h = omega arith

-- no list of names is long, if each is at most as long as allowed
short_names : (value_names : List (List (List ℕ))) → All (λ names. length names ≤ max_values) value_names → has_long_range value_names ≡ false
short_names [] all = refl
short_names (names ∷ rest) all =
    or_from (ltb max_values (length names)) (has_long_range rest)
    (le-ltb max_values (length names) (All-head (λ names. length names ≤ max_values) names rest all))
    (short_names rest (All-tail (λ names. length names ≤ max_values) names rest all))

each_short : (value_names : List (List (List ℕ))) → has_long_range value_names ≡ false → All (λ names. length names ≤ max_values) value_names
each_short [] h = All-nil (λ (names : List (List ℕ)). length names ≤ max_values)
each_short (names ∷ rest) h =
    let parts = or_parts (ltb max_values (length names)) (has_long_range rest) h in
    All-cons (λ names. length names ≤ max_values) names rest (ltb-false max_values (length names) parts.0) (each_short rest parts.1)

-- the numbers below n are below n
pub below_all : (n : ℕ) → All (λ k. k < n) (range_with_len 0 n)
below_all n i d l =
    let k : i < n = omega (arith, l, length-range_with_len 0 n) in
    let at = get_or-range_with_len 0 n i d k in omega (arith, at, k)

-- what all operators satisfy the chosen ones satisfy
pub chosen_well : (P : Operator → Type 0) (ops : List Operator) (ns : List ℕ) → All P ops → All P (chosen ops ns)
chosen_well P ops [] all = All-nil P
chosen_well P ops (n ∷ ns) all = go (slice_get ops n) (found P ops n all) (chosen_well P ops ns all)
  where
    go : (r : Option Operator) → IfSome r P → All P (chosen ops ns) → All P (cons_option r (chosen ops ns))
    go None h rest = rest
    go (Some op) h rest = All-cons P op (chosen ops ns) h rest

-- the task with these parts
abbrev parts : Bool → List (List (List ℕ)) → List ℕ → List Fact → List Operator → FiniteDomainTask
parts m names initial goal operators = record { metric = m; value_names = names; initial = initial; goal = goal; operators = operators }

-- the parts of the reduced task make the reduced task
pub made_task : {Y Z : Type 0} (classes : List (List ℕ)) (task : FiniteDomainTask) (ops : List Operator) (m : Bool) (vs : List (Vec (String Z) Y)) (i : List ℕ) (g : List Fact) (os : List Operator) →
    m ≡ task.metric → names_in vs ≡ map (λ v. replicate (class_count (row_of classes v)) []) (staying classes) → i ≡ reduced_state classes task.initial → g ≡ reduced_facts classes task.goal →
    os ≡ map (reduced_operator classes) ops → task_of m vs i g os ≡ reduced_with classes task ops
made_task classes task ops m vs i g os metric names initial goal operators =
    ap (λ (x : Bool). parts x (names_in vs) i g os) metric
    ∙ ap (λ (x : List (List (List ℕ))). parts task.metric x i g os) names
    ∙ ap (λ (x : List ℕ). parts task.metric (reduced_with classes task ops).value_names x g os) initial
    ∙ ap (λ (x : List Fact). parts task.metric (reduced_with classes task ops).value_names (reduced_state classes task.initial) x os) goal
    ∙ ap (λ (x : List Operator). parts task.metric (reduced_with classes task ops).value_names (reduced_state classes task.initial) (reduced_facts classes task.goal) x) operators

-- a task within the limits exceeds none
pub not_past : (task : FiniteDomainTask) (limit : TaskLimit) → IsWithinLimits task → IsPastLimit task limit → ⊥
not_past task Variables within h = omega (arith, within.variables, h)
not_past task Values within h = false≢true (sym within.values ∙ h.1)
not_past task Operators within h = omega (arith, within.operators, h.2)

module _ (task : FiniteDomainTask) (classes : List (List ℕ)) (fit : AreClassesFor (ranges task) classes) (numbered : All AreNumbered classes)
    (within : IsWithinLimits task) where
  row_short : (v : ℕ) → v < length classes → class_count (row_of classes v) ≤ max_values
  row_short v l =
      let none : List (List ℕ) = [] in
      let counted : class_count (row_of classes v) ≤ length (row_of classes v) = count_within (row_of classes v) (numbered v [] l) in
      let long : length (row_of classes v) ≡ get_or (ranges task) v 0 = row_long task classes fit v l in
      let exists : v < length task.value_names = omega (arith, l, as_many task classes fit, length-map task.value_names length) in
      let range : get_or (ranges task) v 0 ≡ length (get_or task.value_names v none) = get_or-map length task.value_names v none 0 exists in
      let few : length (get_or task.value_names v none) ≤ max_values = each_short task.value_names within.values v none exists in
      omega (arith, counted, long, range, few)

  pub reduced_within_limits : (ops : List Operator) → length ops ≤ max_operators → IsWithinLimits (reduced_with classes task ops)
  reduced_within_limits ops few =
      let names : ℕ → List (List ℕ) = λ (v : ℕ). replicate (class_count (row_of classes v)) [] in
      record {
        variables =
            let left = length-filter_le (stays classes) (range_with_len 0 (length classes)) in
            omega (arith, left, within.variables, length-map (staying classes) names, length-range_with_len 0 (length classes), as_many task classes fit, length-map task.value_names length);
        values = short_names (map names (staying classes)) (λ k d l.
            let j : k < length (staying classes) = omega (arith, l, length-map (staying classes) names) in
            let v : ℕ = get_or (staying classes) k 0 in
            let read : length (get_or (map names (staying classes)) k d) ≡ class_count (row_of classes v) =
            ap length (get_or-map names (staying classes) k 0 d j) ∙ length-replicate (class_count (row_of classes v)) [] in
            let short : class_count (row_of classes v) ≤ max_values = row_short v (number_at classes k j).0 in
            omega (arith, read, short));
        operators = omega (arith, few, length-map ops (reduced_operator classes));
      }
