-- A whole written text spells the task, with its preconditions in the text's order.
use Rattle.std.proofs.Common.{◌≡◌, ℕ, zero, suc, ◌+◌, ◌^◌, ◌<◌, ◌≤◌, Bool, true, false, cond, List, [], ◌∷◌, ◌++◌, length, map, get_or, refl, sym, ap, subst, append_assoc, arith, Some}
use Rattle.std.specs.Prelude.{codes, decimal, nat_le, nat_lt, not, filter, slice_get, All}
use Rattle.std.specs.List.{flat_map, enumerate_from, AllByRecursion}
use Rattle.std.proofs.lemmas.Bool.Decides.{nat_tests}
use Rattle.std.proofs.lemmas.List.{length-map, get_or-map}
use Rattle.std.proofs.lemmas.List.FromFn.{length-enumerate_from}
use Rattle.std.proofs.lemmas.List.Elements.{recursion_from_All}
use Rattle.std.proofs.lemmas.List.Filters.{length-filter_both}
use Rattle.fdr.specs.Tasks.{FiniteDomainTask, ranges, has_long_range}
use Rattle.sasfile_reader.specs.Lines.{pieces, filled, words, digits_after, number}
use Rattle.sasfile_reader.specs.SasTexts.{SpellsCount, SpellsParts, SpellsVariable, SpellsGroup, SpellsOperator, Spells, SpellsTask}
use Rattle.sasfile_reader.proofs.Assignments.{or_left_false, or_right_false}
use Rattle.sasfile_reader.proofs.Steps.{some_is}
use Rattle.sasfile_writer.specs.Written.{version_lines, metric_lines, variable_lines, group_lines, groups_of, fact_lines, operator_lines, written_lines, written}
use Rattle.sasfile_writer.specs.TextOrder.{IsName, CanBeWritten, reordered, in_text_order}
use Rattle.sasfile_writer.proofs.LineLaws.{IsLine, plain_line, decimal_line, count_spelled, lines_again}
use Rattle.sasfile_writer.proofs.PartLaws.{IsSmall, AreNames, AreValues, IsGroup, group_facts, all_append, all_flat, parts_spelled, version_spelled, version_are_lines, metric_spelled, metric_are_lines, variable_spelled, variable_are_lines, group_spelled, group_are_lines, state_spelled, state_are_lines, goal_spelled, goal_are_lines}
use Rattle.sasfile_writer.proofs.OperatorLaws.{IsWritable, operator_spelled, operator_are_lines}

-- ---- ranges

not_longer : (n : ℕ) → nat_lt 65536 n ≡ false → n ≤ 65536
not_longer n e = grind (arith, nat_tests)

ranges_low : (value_names : List (List (List ℕ))) → has_long_range value_names ≡ false → (v : ℕ) → get_or (map length value_names) v 0 ≤ 65536
ranges_low [] e v = omega arith
ranges_low (names ∷ others) e zero = not_longer (length names) (or_left_false (nat_lt 65536 (length names)) (has_long_range others) e)
ranges_low (names ∷ others) e (suc v) = ranges_low others (or_right_false (nat_lt 65536 (length names)) (has_long_range others) e) v

small_ranges : (task : FiniteDomainTask) (sizes : List ℕ) → CanBeWritten task sizes → IsSmall (ranges task)
small_ranges task sizes ok =
    record { few = omega (arith, length-map task.value_names (length {A = List ℕ}), ok.within.variables); low = ranges_low task.value_names ok.within.values }

-- ---- variables

all_names : (task : FiniteDomainTask) (sizes : List ℕ) → CanBeWritten task sizes → All AreNames task.value_names
all_names task sizes ok =
    λ (v : ℕ) (d : List (List ℕ)) lt.
    let long = get_or-map (length {A = List ℕ}) task.value_names v d 0 lt in
    let value = ok.task_ok.initial.in_range v (omega (arith, length-map task.value_names (length {A = List ℕ}))) in
    record {
      some = omega (arith, long, value);
      few = omega (arith, long, (small_ranges task sizes ok).low v);
      each = recursion_from_All IsName (get_or task.value_names v d) (ok.values v d lt);
    }

variables_spelled : (n : ℕ) (value_names : List (List (List ℕ))) → n + length value_names < 2 ^ 64 → AllByRecursion AreNames value_names
    → SpellsParts SpellsVariable (flat_map (λ e. variable_lines e.0 e.1) (enumerate_from n value_names)) value_names
variables_spelled n [] small all = refl
variables_spelled n (names ∷ others) small all =
    (variable_lines n names, flat_map (λ e. variable_lines e.0 e.1) (enumerate_from (n + 1) others), refl, variable_spelled n names (omega arith) all.0, variables_spelled (n + 1) others (omega arith) all.1)

variables_are_lines : (n : ℕ) (value_names : List (List (List ℕ))) → n + length value_names < 2 ^ 64 → AllByRecursion AreNames value_names
    → AllByRecursion IsLine (flat_map (λ e. variable_lines e.0 e.1) (enumerate_from n value_names))
variables_are_lines n [] small all = tt
variables_are_lines n (names ∷ others) small all =
    all_append IsLine (variable_lines n names) (flat_map (λ e. variable_lines e.0 e.1) (enumerate_from (n + 1) others)) (variable_are_lines n names (omega arith) all.0) (variables_are_lines (n + 1) others (omega arith) all.1)

-- ---- mutex groups

there : {X : Type 0} (xs : List X) (k : ℕ) → k < length xs → (x : X) × (slice_get xs k ≡ Some x)
there [] k lt = absurd (omega arith)
there (x ∷ xs) zero lt = (x, refl)
there (x ∷ xs) (suc k) lt = there xs k (omega arith)

inside : {X : Type 0} (xs : List X) (k : ℕ) (x : X) → slice_get xs k ≡ Some x → k < length xs
inside [] k x e = absurd cc
inside (y ∷ ys) zero x e = omega arith
inside (y ∷ ys) (suc k) x e = let h = inside ys k x e in omega arith

range_at : (value_names : List (List (List ℕ))) (k : ℕ) (names : List (List ℕ)) → slice_get value_names k ≡ Some names → get_or (map length value_names) k 0 ≡ length names
range_at [] k names e = absurd cc
range_at (first ∷ others) zero names e = ap (length {A = List ℕ}) (some_is first names e)
range_at (first ∷ others) (suc k) names e = range_at others k names e

-- a size, where there is one, is of a variable with this many values
abbrev IsSized : List ℕ → ℕ → ℕ → Type 0
IsSized ranges size v = (v < length ranges) × (size ≤ get_or ranges v 0)

all_groups : (ranges : List ℕ) (m : ℕ) (sizes : List ℕ) → ((k size : ℕ) → slice_get sizes k ≡ Some size → IsSized ranges size (m + k)) → AllByRecursion (IsGroup ranges) (enumerate_from m sizes)
all_groups ranges m [] sized = tt
all_groups ranges m (size ∷ sizes) sized =
    let here : m + 0 ≡ m = omega arith in
    let first = subst (IsSized ranges size) here (sized 0 size refl) in (
      record { variable = first.0; size = first.1 },
      all_groups ranges (m + 1) sizes (λ k s e. let next : m + suc k ≡ m + 1 + k = omega arith in subst (IsSized ranges s) next (sized (suc k) s e)),
    )

kept_by : {X : Type 0} (P : X → Type 0) (t : Bool) (x : X) (xs : List X) → P x → AllByRecursion P xs → AllByRecursion P (cond t (x ∷ xs) xs)
kept_by P true x xs here all = (here, all)
kept_by P false x xs here all = all

kept : {X : Type 0} (P : X → Type 0) (p : X → Bool) (xs : List X) → AllByRecursion P xs → AllByRecursion P (filter p xs)
kept P p [] all = tt
kept P p (x ∷ xs) all = kept_by P (p x) x (filter p xs) all.0 (kept P p xs all.1)

sized_by : (task : FiniteDomainTask) (sizes : List ℕ) → CanBeWritten task sizes → (k size : ℕ) → slice_get sizes k ≡ Some size → IsSized (ranges task) size (0 + k)
sized_by task sizes ok k size e =
    let lt = inside sizes k size e in
    let names = there task.value_names k (omega (arith, ok.as_many)) in
    let long = range_at task.value_names k names.0 names.1 in
    let at_most = ok.in_range k size names.0 e names.1 in
    let here : k ≡ 0 + k = omega arith in
    subst (IsSized (ranges task) size) here (omega (arith, length-map task.value_names (length {A = List ℕ}), ok.as_many), omega (arith, long, at_most))

groups_ok : (task : FiniteDomainTask) (sizes : List ℕ) → CanBeWritten task sizes → AllByRecursion (IsGroup (ranges task)) (groups_of sizes)
groups_ok task sizes ok = kept (IsGroup (ranges task)) (λ e. nat_le 2 e.1) (enumerate_from 0 sizes) (all_groups (ranges task) 0 sizes (sized_by task sizes ok))

groups_few : (sizes : List ℕ) → length (groups_of sizes) ≤ length sizes
groups_few sizes =
    omega (arith, length-filter_both (λ (e : ℕ × ℕ). nat_le 2 e.1) (λ e. not (nat_le 2 e.1)) (λ e. refl) (enumerate_from 0 sizes), length-enumerate_from 0 sizes)

-- ---- the initial state

values_ok : (rs xs : List ℕ) → length xs ≡ length rs → ((v : ℕ) → v < length rs → get_or xs v 0 < get_or rs v 0) → ((v : ℕ) → get_or rs v 0 ≤ 65536) → AreValues rs xs
values_ok [] [] long below low = tt
values_ok [] (x ∷ xs) long below low = absurd (omega arith)
values_ok (r ∷ rs) [] long below low = absurd (omega arith)
values_ok (r ∷ rs) (x ∷ xs) long below low =
    (below 0 (omega arith), low 0, values_ok rs xs (omega arith) (λ v lt. below (suc v) (omega arith)) (λ v. low (suc v)))

-- ---- the whole

writable : (task : FiniteDomainTask) (sizes : List ℕ) → CanBeWritten task sizes → AllByRecursion (IsWritable (ranges task)) task.operators
writable task sizes ok =
    recursion_from_All (IsWritable (ranges task)) task.operators (λ k d lt. record { parts = ok.task_ok.operators k d lt; name = ok.operators k d lt; cheap = ok.costs k d lt })

zero_spelled : SpellsCount (codes "0") 0
unfolding words pieces filled number digits_after
zero_spelled = refl

regrouped : (a b c d e f g h : List (List ℕ)) → ((((((a ++ b) ++ c) ++ d) ++ e) ++ f) ++ g) ++ h ≡ a ++ (b ++ (c ++ (d ++ (e ++ (f ++ (g ++ h))))))
regrouped a b c d e f g h = simp append_assoc

-- the parts of a text
abbrev variable_part : FiniteDomainTask → List (List ℕ)
variable_part task = decimal (length task.value_names) ∷ flat_map (λ e. variable_lines e.0 e.1) (enumerate_from 0 task.value_names)

abbrev group_part : List ℕ → List (List ℕ)
group_part sizes = decimal (length (groups_of sizes)) ∷ flat_map (λ e. group_lines e.0 e.1) (groups_of sizes)

abbrev state_part : FiniteDomainTask → List (List ℕ)
state_part task = codes "begin_state" ∷ (map decimal task.initial ++ codes "end_state" ∷ [])

abbrev goal_part : FiniteDomainTask → List (List ℕ)
goal_part task = codes "begin_goal" ∷ (fact_lines task.goal ++ codes "end_goal" ∷ [])

abbrev operator_part : FiniteDomainTask → List (List ℕ)
operator_part task = decimal (length task.operators) ∷ flat_map operator_lines task.operators

-- the counts are small
record AreFew (task : FiniteDomainTask) (sizes : List ℕ) : Type 0 where
  variables : length task.value_names < 2 ^ 64
  groups : length (groups_of sizes) < 2 ^ 64
  operators : length task.operators < 2 ^ 64

are_few : (task : FiniteDomainTask) (sizes : List ℕ) → CanBeWritten task sizes → AreFew task sizes
are_few task sizes ok =
    record {
      variables = omega (arith, ok.within.variables);
      groups = omega (arith, groups_few sizes, ok.as_many, ok.within.variables);
      operators = omega (arith, ok.within.operators);
    }

parts_are_spelled : (task : FiniteDomainTask) (sizes : List ℕ) → CanBeWritten task sizes → Spells (written_lines task sizes) (in_text_order task)
parts_are_spelled task sizes ok =
    let rs = ranges task in
    let small = small_ranges task sizes ok in
    let few = are_few task sizes ok in
    let groups = groups_of sizes in
    let names = recursion_from_All AreNames task.value_names (all_names task sizes ok) in
    record {
      version_lines = version_lines;
      metric_lines = metric_lines task.metric;
      variable_lines = variable_part task;
      group_lines = group_part sizes;
      state_lines = state_part task;
      goal_lines = goal_part task;
      operator_lines = operator_part task;
      axioms = codes "0";
      ending = [];
      groups = map group_facts groups;
      lines_are = regrouped version_lines (metric_lines task.metric) (variable_part task) (group_part sizes) (state_part task) (goal_part task) (operator_part task) (codes "0" ∷ []);
      version_is = version_spelled;
      metric_is = metric_spelled task.metric;
      variables_are = record {
        count = decimal (length task.value_names);
        others = flat_map (λ e. variable_lines e.0 e.1) (enumerate_from 0 task.value_names);
        lines_are = refl;
        count_is = count_spelled (length task.value_names) few.variables;
        items = variables_spelled 0 task.value_names (omega (arith, few.variables)) names;
      };
      few_variables = ok.within.variables;
      groups_are = record {
        count = decimal (length groups);
        others = flat_map (λ e. group_lines e.0 e.1) groups;
        lines_are = refl;
        count_is = subst (SpellsCount (decimal (length groups))) (sym (length-map groups group_facts)) (count_spelled (length groups) few.groups);
        items = parts_spelled (SpellsGroup rs) (IsGroup rs) (λ e. group_lines e.0 e.1) group_facts (group_spelled rs small) groups (groups_ok task sizes ok);
      };
      state_is = state_spelled rs task.initial (values_ok rs task.initial ok.task_ok.initial.as_long ok.task_ok.initial.in_range small.low);
      goal_is = goal_spelled rs small task.goal ok.task_ok.goal;
      operators_are = record {
        count = decimal (length task.operators);
        others = flat_map operator_lines task.operators;
        lines_are = refl;
        count_is = subst (SpellsCount (decimal (length task.operators))) (sym (length-map task.operators reordered)) (count_spelled (length task.operators) few.operators);
        items = parts_spelled (SpellsOperator rs) (IsWritable rs) operator_lines reordered (operator_spelled rs small) task.operators (writable task sizes ok);
      };
      few_operators = omega (arith, length-map task.operators reordered, ok.within.operators);
      no_axioms = zero_spelled;
      ending_is = tt;
    }

parts_are_lines : (task : FiniteDomainTask) (sizes : List ℕ) → CanBeWritten task sizes → AllByRecursion IsLine (written_lines task sizes)
parts_are_lines task sizes ok =
    let rs = ranges task in
    let small = small_ranges task sizes ok in
    let few = are_few task sizes ok in
    let names = recursion_from_All AreNames task.value_names (all_names task sizes ok) in
    let metric = metric_lines task.metric in
    let variables : AllByRecursion IsLine (variable_part task) = (decimal_line (length task.value_names) few.variables, variables_are_lines 0 task.value_names (omega (arith, few.variables)) names) in
    let groups : AllByRecursion IsLine (group_part sizes) = (decimal_line (length (groups_of sizes)) few.groups, all_flat IsLine (IsGroup rs) (λ e. group_lines e.0 e.1) (group_are_lines rs small) (groups_of sizes) (groups_ok task sizes ok)) in
    let state = state_are_lines rs task.initial (values_ok rs task.initial ok.task_ok.initial.as_long ok.task_ok.initial.in_range small.low) in
    let goal = goal_are_lines rs small task.goal ok.task_ok.goal in
    let operators : AllByRecursion IsLine (operator_part task) = (decimal_line (length task.operators) few.operators, all_flat IsLine (IsWritable rs) operator_lines (operator_are_lines rs small) task.operators (writable task sizes ok)) in
    let two = all_append IsLine version_lines metric version_are_lines (metric_are_lines task.metric) in
    let three = all_append IsLine (version_lines ++ metric) (variable_part task) two variables in
    let four = all_append IsLine ((version_lines ++ metric) ++ variable_part task) (group_part sizes) three groups in
    let five = all_append IsLine (((version_lines ++ metric) ++ variable_part task) ++ group_part sizes) (state_part task) four state in
    let six = all_append IsLine ((((version_lines ++ metric) ++ variable_part task) ++ group_part sizes) ++ state_part task) (goal_part task) five goal in
    let seven = all_append IsLine (((((version_lines ++ metric) ++ variable_part task) ++ group_part sizes) ++ state_part task) ++ goal_part task) (operator_part task) six operators in
    all_append IsLine ((((((version_lines ++ metric) ++ variable_part task) ++ group_part sizes) ++ state_part task) ++ goal_part task) ++ operator_part task) (codes "0" ∷ []) seven (plain_line (codes "0") refl, tt)

pub written_is_read : (task : FiniteDomainTask) (sizes : List ℕ) → CanBeWritten task sizes → SpellsTask (written task sizes) (in_text_order task)
written_is_read task sizes ok =
    subst (λ ls. Spells ls (in_text_order task)) (sym (lines_again (written_lines task sizes) (parts_are_lines task sizes ok))) (parts_are_spelled task sizes ok)
