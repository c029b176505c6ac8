-- The parts of a written text spell the parts of the task, and their lines are lines.
use Rattle.std.proofs.Common.{◌≡◌, ℕ, zero, suc, ◌+◌, ◌^◌, ◌<◌, ◌≤◌, Bool, true, false, List, [], ◌∷◌, ◌++◌, length, map, get_or, refl, sym, subst, ◌∙◌, arith}
use Rattle.std.specs.Prelude.{codes, decimal}
use Rattle.std.specs.List.{flat_map, AllByRecursion, range_with_len}
use Rattle.std.proofs.lemmas.List.{length-map}
use Rattle.std.proofs.lemmas.List.FromFn.{length-range_with_len}
use Rattle.std.proofs.lemmas.List.Elements.{recursion_from_All}
use Rattle.fdr.specs.declared.fact.Fact.{Fact}
use Rattle.fdr.specs.Tasks.{IsInRange, IsAssignment}
use Rattle.sasfile_reader.specs.declared.number.Number.TheVariants.{Negative}
use Rattle.sasfile_reader.specs.Lines.{pieces, filled, words, digits_after, number}
use Rattle.sasfile_reader.specs.SasTexts.{SpellsNumbers, SpellsCount, SpellsFact, SpellsEach, SpellsParts, SpellsLines, SpellsVersion, SpellsMetric, SpellsVariable, IsText, SpellsGroup, SpellsValues, SpellsState, SpellsGoal}
use Rattle.sasfile_writer.specs.Written.{pair_line, fact_line, fact_lines, version_lines, metric_lines, variable_lines, group_lines}
use Rattle.sasfile_writer.specs.TextOrder.{IsName}
use Rattle.sasfile_writer.proofs.FactLaws.{at, few_facts}
use Rattle.sasfile_writer.proofs.LineLaws.{IsLine, plain_line, decimal_word, decimal_line, decimal_text, name_line, count_spelled, pair_spelled, pair_is_line}

-- ---- what holds of each

pub all_append : {X : Type 0} (P : X → Type 0) (xs ys : List X) → AllByRecursion P xs → AllByRecursion P ys → AllByRecursion P (xs ++ ys)
all_append P [] ys all more = more
all_append P (x ∷ xs) ys all more = (all.0, all_append P xs ys all.1 more)

pub all_map : {X Y : Type 0} (P : Y → Type 0) (Q : X → Type 0) (f : X → Y) → ((x : X) → Q x → P (f x)) → (xs : List X) → AllByRecursion Q xs → AllByRecursion P (map f xs)
all_map P Q f each [] all = tt
all_map P Q f each (x ∷ xs) all = (each x all.0, all_map P Q f each xs all.1)

pub all_flat : {X Y : Type 0} (P : Y → Type 0) (Q : X → Type 0) (f : X → List Y) → ((x : X) → Q x → AllByRecursion P (f x)) → (xs : List X) → AllByRecursion Q xs → AllByRecursion P (flat_map f xs)
all_flat P Q f each [] all = tt
all_flat P Q f each (x ∷ xs) all = all_append P (f x) (flat_map f xs) (each x all.0) (all_flat P Q f each xs all.1)

pub each_spelled : {X Y : Type 0} (P : List ℕ → Y → Type 0) (Q : X → Type 0) (line : X → List ℕ) (item : X → Y) → ((x : X) → Q x → P (line x) (item x)) → (xs : List X) → AllByRecursion Q xs → SpellsEach P (map line xs) (map item xs)
each_spelled P Q line item each [] all = tt
each_spelled P Q line item each (x ∷ xs) all = (each x all.0, each_spelled P Q line item each xs all.1)

pub parts_spelled : {X Y : Type 0} (P : List (List ℕ) → Y → Type 0) (Q : X → Type 0) (part : X → List (List ℕ)) (item : X → Y) → ((x : X) → Q x → P (part x) (item x)) → (xs : List X) → AllByRecursion Q xs → SpellsParts P (flat_map part xs) (map item xs)
parts_spelled P Q part item each [] all = refl
parts_spelled P Q part item each (x ∷ xs) all = (part x, flat_map part xs, refl, each x all.0, parts_spelled P Q part item each xs all.1)

-- ---- facts

-- as many variables and values as a task may have
pub record IsSmall (ranges : List ℕ) : Type 0 where
  pub few : length ranges ≤ 65536
  pub low : (v : ℕ) → get_or ranges v 0 ≤ 65536

fact_spelled : (ranges : List ℕ) → IsSmall ranges → (f : Fact) → IsInRange ranges f → SpellsFact ranges (fact_line f) f
fact_spelled ranges small f ok = (pair_spelled f.variable f.value (omega (arith, small.few, ok.0)) (omega (arith, small.low f.variable, ok.1)), ok)

fact_is_line : (ranges : List ℕ) → IsSmall ranges → (f : Fact) → IsInRange ranges f → IsLine (fact_line f)
fact_is_line ranges small f ok = pair_is_line f.variable f.value (omega (arith, small.few, ok.0)) (omega (arith, small.low f.variable, ok.1))

each_fact : (ranges : List ℕ) → IsSmall ranges → (fs : List Fact) → AllByRecursion (IsInRange ranges) fs → SpellsEach (SpellsFact ranges) (map fact_line fs) fs
each_fact ranges small [] all = tt
each_fact ranges small (f ∷ fs) all = (fact_spelled ranges small f all.0, each_fact ranges small fs all.1)

pub facts_spelled : (ranges : List ℕ) → IsSmall ranges → (fs : List Fact) → length fs < 2 ^ 64 → AllByRecursion (IsInRange ranges) fs → SpellsLines (SpellsFact ranges) (fact_lines fs) fs
facts_spelled ranges small fs few all =
    record { count = decimal (length fs); others = map fact_line fs; lines_are = refl; count_is = count_spelled (length fs) few; items = each_fact ranges small fs all }

pub facts_are_lines : (ranges : List ℕ) → IsSmall ranges → (fs : List Fact) → length fs < 2 ^ 64 → AllByRecursion (IsInRange ranges) fs → AllByRecursion IsLine (fact_lines fs)
facts_are_lines ranges small fs few all = (decimal_line (length fs) few, all_map IsLine (IsInRange ranges) fact_line (fact_is_line ranges small) fs all)

-- ---- version and metric

pub version_spelled : SpellsVersion version_lines
unfolding words pieces filled number digits_after
version_spelled = record { version = codes "3"; lines_are = refl; version_is = refl }

pub version_are_lines : AllByRecursion IsLine version_lines
version_are_lines = (plain_line (codes "begin_version") refl, (plain_line (codes "3") refl, (plain_line (codes "end_version") refl, tt)))

pub metric_spelled : (metric : Bool) → SpellsMetric (metric_lines metric) metric
unfolding words pieces filled number digits_after
metric_spelled true = record { flag = codes "1"; lines_are = refl; flag_is = refl }
metric_spelled false = record { flag = codes "0"; lines_are = refl; flag_is = refl }

pub metric_are_lines : (metric : Bool) → AllByRecursion IsLine (metric_lines metric)
metric_are_lines true = (plain_line (codes "begin_metric") refl, (plain_line (codes "1") refl, (plain_line (codes "end_metric") refl, tt)))
metric_are_lines false = (plain_line (codes "begin_metric") refl, (plain_line (codes "0") refl, (plain_line (codes "end_metric") refl, tt)))

-- ---- variables

-- the names of a variable's values, of which there are some and not too many
pub record AreNames (names : List (List ℕ)) : Type 0 where
  pub some : 0 < length names
  pub few : length names ≤ 65536
  pub each : AllByRecursion IsName names

minus_one : SpellsNumbers (codes "-1") (Negative 1 ∷ [])
unfolding words pieces filled number digits_after
minus_one = refl

are_texts : (names : List (List ℕ)) → AllByRecursion IsName names → AllByRecursion IsText names
are_texts [] all = tt
are_texts (name ∷ names) all = (all.0.printed, are_texts names all.1)

pub variable_spelled : (n : ℕ) (names : List (List ℕ)) → n < 2 ^ 64 → AreNames names → SpellsVariable (variable_lines n names) names
variable_spelled n names small ok =
    record {
      name = codes "var" ++ decimal n;
      layer = codes "-1";
      range = decimal (length names);
      lines_are = refl;
      name_is = decimal_text n small;
      layer_is = minus_one;
      range_is = count_spelled (length names) (omega (arith, ok.few));
      some = ok.some;
      few = ok.few;
      texts_are = are_texts names ok.each;
    }

names_are_lines : (names : List (List ℕ)) → AllByRecursion IsName names → AllByRecursion IsLine names
names_are_lines [] all = tt
names_are_lines (name ∷ names) all = (name_line name all.0, names_are_lines names all.1)

pub variable_are_lines : (n : ℕ) (names : List (List ℕ)) → n < 2 ^ 64 → AreNames names → AllByRecursion IsLine (variable_lines n names)
variable_are_lines n names small ok =
    let lines = all_append IsLine names (codes "end_variable" ∷ []) (names_are_lines names ok.each) (plain_line (codes "end_variable") refl, tt) in
    (plain_line (codes "begin_variable") refl, (plain_line (codes "var" ++ decimal n) (decimal_word n small).plain, (plain_line (codes "-1") refl, (decimal_line (length names) (omega (arith, ok.few)), lines))))

-- ---- mutex groups

-- a variable, and some of its values
pub record IsGroup (ranges : List ℕ) (e : ℕ × ℕ) : Type 0 where
  pub variable : e.0 < length ranges
  pub size : e.1 ≤ get_or ranges e.0 0

abbrev pub group_facts : ℕ × ℕ → List Fact
group_facts e = map (at e.0) (range_with_len 0 e.1)

range_below : (m n high : ℕ) → m + n ≤ high → AllByRecursion (λ k. k < high) (range_with_len m n)
range_below m zero high le = tt
range_below m (suc n) high le = (omega arith, range_below (m + 1) n high (omega arith))

pub group_spelled : (ranges : List ℕ) → IsSmall ranges → (e : ℕ × ℕ) → IsGroup ranges e → SpellsGroup ranges (group_lines e.0 e.1) (group_facts e)
group_spelled ranges small e ok =
    let v = e.0 in let n = e.1 in
    let long : length (map (at v) (range_with_len 0 n)) ≡ n = length-map (range_with_len 0 n) (at v) ∙ length-range_with_len 0 n in
    let few : n < 2 ^ 64 = omega (arith, ok.size, small.low v) in
    record {
      inner = decimal n ∷ map (pair_line v) (range_with_len 0 n);
      lines_are = refl;
      facts_are = record {
        count = decimal n;
        others = map (pair_line v) (range_with_len 0 n);
        lines_are = refl;
        count_is = subst (SpellsCount (decimal n)) (sym long) (count_spelled n few);
        items = each_spelled (SpellsFact ranges) (λ k. k < get_or ranges v 0) (pair_line v) (at v) (λ k lt. fact_spelled ranges small (at v k) (ok.variable, lt)) (range_with_len 0 n) (range_below 0 n (get_or ranges v 0) (omega (arith, ok.size)));
      };
    }

pub group_are_lines : (ranges : List ℕ) → IsSmall ranges → (e : ℕ × ℕ) → IsGroup ranges e → AllByRecursion IsLine (group_lines e.0 e.1)
group_are_lines ranges small e ok =
    let v = e.0 in let n = e.1 in
    let few : n < 2 ^ 64 = omega (arith, ok.size, small.low v) in
    let inner = all_map IsLine (λ k. k < get_or ranges v 0) (pair_line v) (λ k lt. fact_is_line ranges small (at v k) (ok.variable, lt)) (range_with_len 0 n) (range_below 0 n (get_or ranges v 0) (omega (arith, ok.size))) in
    (plain_line (codes "begin_mutex_group") refl, (decimal_line n few, all_append IsLine (map (pair_line v) (range_with_len 0 n)) (codes "end_mutex_group" ∷ []) inner (plain_line (codes "end_mutex_group") refl, tt)))

-- ---- initial state and goal

-- values below their ranges, which are not too many
abbrev pub AreValues : List ℕ → List ℕ → Type 0
AreValues [] [] = Unit {0}
AreValues [] (x ∷ xs) = ⊥
AreValues (r ∷ rs) [] = ⊥
AreValues (r ∷ rs) (x ∷ xs) = (x < r) × (r ≤ 65536) × AreValues rs xs

values_spelled : (rs xs : List ℕ) → AreValues rs xs → SpellsValues rs (map decimal xs) xs
values_spelled [] [] ok = tt
values_spelled [] (x ∷ xs) ok = absurd ok
values_spelled (r ∷ rs) [] ok = absurd ok
values_spelled (r ∷ rs) (x ∷ xs) ok = (count_spelled x (omega (arith, ok.0, ok.1)), ok.0, values_spelled rs xs ok.2)

values_are_lines : (rs xs : List ℕ) → AreValues rs xs → AllByRecursion IsLine (map decimal xs)
values_are_lines [] [] ok = tt
values_are_lines [] (x ∷ xs) ok = absurd ok
values_are_lines (r ∷ rs) [] ok = absurd ok
values_are_lines (r ∷ rs) (x ∷ xs) ok = (decimal_line x (omega (arith, ok.0, ok.1)), values_are_lines rs xs ok.2)

pub state_spelled : (rs xs : List ℕ) → AreValues rs xs → SpellsState rs (codes "begin_state" ∷ (map decimal xs ++ codes "end_state" ∷ [])) xs
state_spelled rs xs ok = record { inner = map decimal xs; lines_are = refl; values_are = values_spelled rs xs ok }

pub state_are_lines : (rs xs : List ℕ) → AreValues rs xs → AllByRecursion IsLine (codes "begin_state" ∷ (map decimal xs ++ codes "end_state" ∷ []))
state_are_lines rs xs ok =
    (plain_line (codes "begin_state") refl, all_append IsLine (map decimal xs) (codes "end_state" ∷ []) (values_are_lines rs xs ok) (plain_line (codes "end_state") refl, tt))

pub assigned_few : (ranges : List ℕ) → IsSmall ranges → (fs : List Fact) → IsAssignment ranges fs → length fs < 2 ^ 64
assigned_few ranges small fs ok = omega (arith, few_facts ranges fs ok, small.few)

pub goal_spelled : (ranges : List ℕ) → IsSmall ranges → (fs : List Fact) → IsAssignment ranges fs → SpellsGoal ranges (codes "begin_goal" ∷ (fact_lines fs ++ codes "end_goal" ∷ [])) fs
goal_spelled ranges small fs ok =
    record {
      inner = fact_lines fs;
      lines_are = refl;
      facts_are = facts_spelled ranges small fs (assigned_few ranges small fs ok) (recursion_from_All (IsInRange ranges) fs ok.in_range);
      distinct = ok.distinct;
    }

pub goal_are_lines : (ranges : List ℕ) → IsSmall ranges → (fs : List Fact) → IsAssignment ranges fs → AllByRecursion IsLine (codes "begin_goal" ∷ (fact_lines fs ++ codes "end_goal" ∷ []))
goal_are_lines ranges small fs ok =
    (plain_line (codes "begin_goal") refl, all_append IsLine (fact_lines fs) (codes "end_goal" ∷ []) (facts_are_lines ranges small fs (assigned_few ranges small fs ok) (recursion_from_All (IsInRange ranges) fs ok.in_range)) (plain_line (codes "end_goal") refl, tt))
