-- What is spelled of operators, and of a whole text, is read.
use Rattle.std.proofs.Common.{◌≡◌, ℕ, suc, ◌+◌, ◌-◌, ◌<◌, ◌≤◌, ◌^◌, Bool, true, false, eqb, ltb, List, [], ◌∷◌, ◌++◌, length, map, get_or, refl, sym, ap, subst, ◌∙◌, arith, append_assoc, Option, Some, None}
use Rattle.std.specs.Prelude.{Ok, codes, ◌||◌, not}
use Rattle.std.specs.List.{AllByRecursion}
use Rattle.std.proofs.lemmas.Bool.{lt-ltb, le-ltb}
use Rattle.std.proofs.lemmas.List.{length-append}
use Rattle.fdr.specs.declared.fact.Fact.{Fact}
use Rattle.fdr.specs.Tasks.{Operator, FiniteDomainTask, IsInRange, names_variable, are_distinct, has_long_range}
use Rattle.sasfile_reader.specs.declared.number.Number.{Number}
use Rattle.sasfile_reader.specs.declared.number.Number.TheVariants.{Natural}
use Rattle.sasfile_reader.specs.declared.effects.Change.{Change}
use Rattle.sasfile_reader.specs.Lines.{lines, words, number}
use Rattle.sasfile_reader.specs.SasTexts.{SpellsCount, SpellsFact, SpellsParts, SpellsLines, SpellsList, SpellsVersion, SpellsMetric, SpellsVariable, SpellsGroup, SpellsState, SpellsGoal, before_number, IsBefore, SpellsChange, after_of, SpellsOperator, Spells, SpellsTask}
use Rattle.sasfile_reader.specs.Reading.{quadruple, line_at, Halves, is_positive, is_conditional, before_of, change_of, change_at, is_named, conditions_with, with_change, change_step, halves_at, cost_at, operator_at, operator_step, operators_at, axioms_at, empty_from, head_at, Body, body_at, task_at, task_in}
use Rattle.sasfile_reader.proofs.Numbers.{IsKept, spelled_kept}
use Rattle.sasfile_reader.proofs.Assignments.{and_left, and_right, or_left_false, or_right_false}
use Rattle.sasfile_reader.proofs.Sound.{pushed, pushed_list}
use Rattle.sasfile_reader.proofs.SoundBody.{AreSmall, are_small}
use Rattle.sasfile_reader.proofs.Cuts.{lines_roomy}
use Rattle.sasfile_reader.proofs.Assignments.{names_push}
use Rattle.sasfile_reader.proofs.SoundWhole.{names_front, pushed_precondition, pushed_effect}
use Rattle.sasfile_reader.proofs.Complete.{place, keyword_reads, text_reads, number_reads, count_reads, Reads, Along, each_reads, parts_read, version_reads, metric_reads, variables_read_again, both_true, fact_again, names_middle, names_apart, count_small, facts_read_again, groups_read_again, state_reads, goal_reads, not_false}

-- ---- effects

record ReadsFour (ws : List (List ℕ)) (c v b a : Number) : Type 0 where
  four_are : quadruple ws ≡ Some (record { conditions = c; variable = v; before = b; after = a })
  first_is : is_conditional ws ≡ is_positive (Some c)

four_of : (ws : List (List ℕ)) (c v b a : Number) → map number ws ≡ Some c ∷ Some v ∷ Some b ∷ Some a ∷ [] → IsKept c → IsKept v → IsKept b → IsKept a → ReadsFour ws c v b a
four_of [] c v b a e kc kv kb ka = absurd cc
four_of (x ∷ []) c v b a e kc kv kb ka = absurd cc
four_of (x ∷ y ∷ []) c v b a e kc kv kb ka = absurd cc
four_of (x ∷ y ∷ z ∷ []) c v b a e kc kv kb ka = absurd cc
four_of (x ∷ y ∷ z ∷ w ∷ []) c v b a e kc kv kb ka =
    let p : number x ≡ Some c = cc in
    let q : number y ≡ Some v = cc in
    let r : number z ≡ Some b = cc in
    let s : number w ≡ Some a = cc in
    record {
      four_are = rw (spelled_kept x c p kc, spelled_kept y v q kv, spelled_kept z b r kb, spelled_kept w a s ka) refl;
      first_is = ap is_positive (spelled_kept x c p kc);
    }
four_of (x ∷ y ∷ z ∷ w ∷ u ∷ ws) c v b a e kc kv kb ka = absurd cc

before_kept : (range : ℕ) (o : Option ℕ) → range ≤ 65536 → IsBefore range o → IsKept (before_number o)
before_kept range None small h = omega arith
before_kept range (Some x) small h = omega arith

before_again : (range : ℕ) (o : Option ℕ) → IsBefore range o → before_of range (before_number o) ≡ Some o
before_again range None h = refl
before_again range (Some x) h = rw (lt-ltb x range h) refl

change_again : (ks : List ℕ) (c : Change) → IsInRange ks c.after → IsBefore (get_or ks c.after.variable 0) c.before
    → change_of ks (record { conditions = Natural 0; variable = Natural c.after.variable; before = before_number c.before; after = Natural c.after.value }) ≡ Some c
change_again ks c inside before = rw (fact_again ks c.after inside, before_again (get_or ks c.after.variable 0) c.before before) refl

change_reads : (ks : List ℕ) → AreSmall ks → (c : Change) (line : List ℕ) → SpellsChange ks line c → (n : ℕ) (rest : List (List ℕ)) → change_at ks (place n (line ∷ rest)) ≡ Ok (c, place (n + 1) rest)
unfolding change_at line_at
change_reads ks small c line h n rest =
    let few = small.few in
    let range = small.each c.after.variable in
    let low : c.after.variable < length ks = h.after.0 in
    let below : c.after.value < get_or ks c.after.variable 0 = h.after.1 in
    let four = four_of (words line) (Natural 0) (Natural c.after.variable) (before_number c.before) (Natural c.after.value) h.numbers (omega arith) (omega arith) (before_kept (get_or ks c.after.variable 0) c.before range h.before) (omega arith) in
    rw (four.first_is, four.four_are, change_again ks c h.after h.before) refl

change_one : (ks : List ℕ) → AreSmall ks → (h : Halves) (c : Change) (line : List ℕ) → SpellsChange ks line c → is_named h c.after.variable ≡ false → (n : ℕ) (rest : List (List ℕ)) → change_step ks h (place n (line ∷ rest)) ≡ Ok (with_change h c, place (n + 1) rest)
unfolding change_step
change_one ks small h c line is none n rest = rw (change_reads ks small c line is n rest, none) refl

either_false : (a b : Bool) → a ≡ false → b ≡ false → (a || b) ≡ false
either_false a b p q = rw (p, q) refl

conditions_unnamed : (fs : List Fact) (v w : ℕ) (b : Option ℕ) → names_variable fs w ≡ false → eqb v w ≡ false → names_variable (conditions_with fs v b) w ≡ false
conditions_unnamed fs v w None n e = n
conditions_unnamed fs v w (Some x) n e = names_push fs (record { variable = v; value = x }) w n e

along_changes : (h : Halves) (fs : List Fact) (cs : List Change) → ((v : ℕ) → names_variable fs v ≡ false → is_named h v ≡ false) → are_distinct (fs ++ map after_of cs) ≡ true
    → Along (λ (h : Halves) (c : Change). is_named h c.after.variable ≡ false) with_change h cs
along_changes h fs [] covers d = tt
along_changes h fs (c ∷ cs) covers d = (
  covers c.after.variable (names_apart fs c.after (map after_of cs) d),
  along_changes (with_change h c) (fs ++ c.after ∷ []) cs
      (λ v n.
      let old : is_named h v ≡ false = covers v (names_front fs c.after v n) in
      let other : eqb c.after.variable v ≡ false = names_middle fs c.after [] v n in
      either_false _ _
      (conditions_unnamed h.precondition c.after.variable v c.before (or_left_false (names_variable h.precondition v) (names_variable h.effect v) old) other)
      (names_push h.effect c.after v (or_right_false (names_variable h.precondition v) (names_variable h.effect v) old) other))
      (subst (λ (z : List Fact). are_distinct z ≡ true) (sym (append_assoc fs (c.after ∷ []) (map after_of cs))) d),
)

names_first : (fs gs : List Fact) (v : ℕ) → names_variable (fs ++ gs) v ≡ false → names_variable fs v ≡ false
names_first [] gs v e = refl
names_first (f ∷ fs) gs v e =
    either_false _ _ (or_left_false (eqb f.variable v) (names_variable (fs ++ gs) v) e) (names_first fs gs v (or_right_false (eqb f.variable v) (names_variable (fs ++ gs) v) e))

not_true : (b : Bool) → b ≡ false → not b ≡ true
not_true b e = rw e refl

distinct_first : (fs gs : List Fact) → are_distinct (fs ++ gs) ≡ true → are_distinct fs ≡ true
distinct_first [] gs d = refl
distinct_first (f ∷ fs) gs d =
    let none : names_variable (fs ++ gs) f.variable ≡ false = not_false _ (and_left (not (names_variable (fs ++ gs) f.variable)) (are_distinct (fs ++ gs)) d) in
    both_true _ _ (not_true _ (names_first fs gs f.variable none)) (distinct_first fs gs (and_right (not (names_variable (fs ++ gs) f.variable)) (are_distinct (fs ++ gs)) d))

-- ---- operators

halves_read : (ks : List ℕ) → AreSmall ks → (first second : List (List ℕ)) (prevail : List Fact) (cs : List Change) → length first < 2 ^ 64 - 1 → length second < 2 ^ 64 - 1
    → SpellsLines (SpellsFact ks) first prevail → SpellsLines (SpellsChange ks) second cs → are_distinct (prevail ++ map after_of cs) ≡ true
    → (n : ℕ) (rest : List (List ℕ)) → (m : ℕ) × (halves_at ks (place n (first ++ (second ++ rest))) ≡ Ok (pushed with_change (record { precondition = prevail; effect = [] }) cs, place m rest))
unfolding halves_at
halves_read ks small first second prevail cs room1 room2 f v d n rest =
    let start : Halves = record { precondition = prevail; effect = [] } in
    let p = facts_read_again ks small first prevail room1 (distinct_first prevail (map after_of cs) d) f n (v.count ∷ (v.others ++ rest)) in
    let few = count_small (SpellsChange ks) second cs v room2 in
    let along = along_changes start prevail cs (λ w z. either_false _ _ z refl) d in
    let r = each_reads (SpellsChange ks) (λ (h : Halves) (c : Change). is_named h c.after.variable ≡ false) with_change (change_step ks) (change_one ks small) start cs v.others v.items along (p.0 + 1) rest in
    let two : second ++ rest ≡ v.count ∷ (v.others ++ rest) = ap (λ (z : List (List ℕ)). z ++ rest) v.lines_are in
    let e : halves_at ks (place n (first ++ (v.count ∷ (v.others ++ rest)))) ≡ Ok (pushed with_change start cs, place r.0 rest) = rw (p.1, count_reads v.count (length cs) v.count_is few p.0 (v.others ++ rest)) r.1 in
    (r.0, subst (λ (z : List (List ℕ)). halves_at ks (place n (first ++ z)) ≡ Ok (pushed with_change start cs, place r.0 rest)) (sym two) e)

cost_reads : (line : List ℕ) (k : ℕ) → SpellsCount line k → k ≤ 2147483647 → (n : ℕ) (rest : List (List ℕ)) → cost_at (place n (line ∷ rest)) ≡ Ok (k, place (n + 1) rest)
unfolding cost_at
cost_reads line k is cheap n rest = rw (count_reads line k is (omega arith) n rest, le-ltb 2147483647 k cheap) refl

operator_reads : (ks : List ℕ) → AreSmall ks → (ls : List (List ℕ)) (o : Operator) → length ls < 2 ^ 64 - 1 → SpellsOperator ks ls o → Reads (operator_at ks) ls o
unfolding operator_at
operator_reads ks small ls o room v n rest =
    let tail : List (List ℕ) = v.cost ∷ codes "end_operator" ∷ rest in
    let long : length ls ≡ suc (suc (length (v.prevail_lines ++ (v.change_lines ++ v.cost ∷ codes "end_operator" ∷ [])))) = ap length v.lines_are in
    let long2 : length (v.prevail_lines ++ (v.change_lines ++ v.cost ∷ codes "end_operator" ∷ [])) ≡ length v.prevail_lines + length (v.change_lines ++ v.cost ∷ codes "end_operator" ∷ []) = length-append v.prevail_lines (v.change_lines ++ v.cost ∷ codes "end_operator" ∷ []) in
    let long3 : length (v.change_lines ++ v.cost ∷ codes "end_operator" ∷ []) ≡ length v.change_lines + length (v.cost ∷ codes "end_operator" ∷ []) = length-append v.change_lines (v.cost ∷ codes "end_operator" ∷ []) in
    let room1 : length v.prevail_lines < 2 ^ 64 - 1 = omega arith in
    let room2 : length v.change_lines < 2 ^ 64 - 1 = omega arith in
    let start : Halves = record { precondition = v.prevail; effect = [] } in
    let h = halves_read ks small v.prevail_lines v.change_lines v.prevail v.changes room1 room2 v.prevail_are v.changes_are v.distinct (n + 1 + 1) tail in
    let pre : (pushed with_change start v.changes).precondition ≡ o.precondition = pushed_precondition start v.changes ∙ sym v.precondition_is in
    let eff : (pushed with_change start v.changes).effect ≡ o.effect = pushed_effect start v.changes ∙ sym v.effect_is in
    let e : operator_at ks (place n (codes "begin_operator" ∷ o.name ∷ (v.prevail_lines ++ (v.change_lines ++ tail)))) ≡ Ok (o, place (h.0 + 1 + 1) rest) =
    rw (
      keyword_reads (codes "begin_operator") n (o.name ∷ (v.prevail_lines ++ (v.change_lines ++ tail))),
      text_reads o.name v.name_is (n + 1) (v.prevail_lines ++ (v.change_lines ++ tail)),
      h.1,
      cost_reads v.cost o.cost v.cost_is v.cheap h.0 (codes "end_operator" ∷ rest),
      keyword_reads (codes "end_operator") (h.0 + 1) rest,
      pre,
      eff,
    ) refl in
    let lines : ls ++ rest ≡ codes "begin_operator" ∷ o.name ∷ (v.prevail_lines ++ (v.change_lines ++ tail)) =
    ap (λ (z : List (List ℕ)). z ++ rest) v.lines_are
    ∙ ap (λ (z : List (List ℕ)). codes "begin_operator" ∷ o.name ∷ z) (append_assoc v.prevail_lines (v.change_lines ++ v.cost ∷ codes "end_operator" ∷ []) rest ∙ ap (λ (z : List (List ℕ)). v.prevail_lines ++ z) (append_assoc v.change_lines (v.cost ∷ codes "end_operator" ∷ []) rest)) in
    (h.0 + 1 + 1, subst (λ (z : List (List ℕ)). operator_at ks (place n z) ≡ Ok (o, place (h.0 + 1 + 1) rest)) (sym lines) e)

operator_one : (ks : List ℕ) → AreSmall ks → (s : List Operator) (o : Operator) (part : List (List ℕ)) → length part < 2 ^ 64 - 1 → SpellsOperator ks part o → Reads (operator_step ks s) part (s ++ o ∷ [])
operator_one ks small s o part room v n rest = let r = operator_reads ks small part o room v n rest in (r.0, rw r.1 refl)

operators_read_again : (ks : List ℕ) → AreSmall ks → (ls : List (List ℕ)) (os : List Operator) → length ls < 2 ^ 64 - 1 → length os ≤ 4294967295 → SpellsList (SpellsOperator ks) ls os → Reads (operators_at ks) ls os
unfolding operators_at
operators_read_again ks small ls os room few v n rest =
    let le : ltb 4294967295 (length os) ≡ false = le-ltb 4294967295 (length os) few in
    let long : length ls ≡ suc (length v.others) = ap length v.lines_are in
    let r = parts_read (SpellsOperator ks) (λ (zs : List Operator) (z : Operator). zs ++ z ∷ []) (operator_step ks) (operator_one ks small) [] os v.others (omega arith) v.items (n + 1) rest in
    let e : operators_at ks (place n (v.count ∷ (v.others ++ rest))) ≡ Ok (os, place r.0 rest) =
    rw (count_reads v.count (length os) v.count_is (omega arith) n (v.others ++ rest), le, r.1) (ap (λ (z : List Operator). Ok (z, place r.0 rest)) (pushed_list [] os)) in
    (r.0, subst (λ (z : List (List ℕ)). operators_at ks (place n (z ++ rest)) ≡ Ok (os, place r.0 rest)) (sym v.lines_are) e)

-- ---- the whole

axioms_read : (line : List ℕ) → SpellsCount line 0 → (n : ℕ) (rest : List (List ℕ)) → axioms_at (place n (line ∷ rest)) ≡ Ok (place (n + 1) rest)
unfolding axioms_at
axioms_read line is n rest = rw (number_reads line (Natural 0) is (omega arith) n rest) refl

empty_reads : (n : ℕ) (ls : List (List ℕ)) → AllByRecursion (λ l. l ≡ []) ls → empty_from n ls ≡ Ok tt
unfolding empty_from
empty_reads n [] h = refl
empty_reads n (l ∷ ls) h = ap (λ (z : List ℕ). empty_from n (z ∷ ls)) h.0 ∙ empty_reads (n + 1) ls h.1

-- the parts are no longer than the whole
record HaveRoom (variables groups goal operators : List (List ℕ)) : Type 0 where
  variables_fit : length variables < 2 ^ 64 - 1
  groups_fit : length groups < 2 ^ 64 - 1
  goal_fits : length goal < 2 ^ 64 - 1
  operators_fit : length operators < 2 ^ 64 - 1

rooms : (ls : List (List ℕ)) (task : FiniteDomainTask) → (s : Spells ls task) → length ls < 2 ^ 64 - 1 → HaveRoom s.variable_lines s.group_lines s.goal_lines s.operator_lines
rooms ls task s room =
    let e0 : length ls ≡ _ = ap length s.lines_are in
    let t6 = s.operator_lines ++ s.axioms ∷ s.ending in
    let t5 = s.goal_lines ++ t6 in
    let t4 = s.state_lines ++ t5 in
    let t3 = s.group_lines ++ t4 in
    let t2 = s.variable_lines ++ t3 in
    let t1 = s.metric_lines ++ t2 in
    let e1 : length ls ≡ length (s.version_lines ++ t1) = ap length s.lines_are in
    let e2 = length-append s.version_lines t1 in
    let e3 = length-append s.metric_lines t2 in
    let e4 = length-append s.variable_lines t3 in
    let e5 = length-append s.group_lines t4 in
    let e6 = length-append s.state_lines t5 in
    let e7 = length-append s.goal_lines t6 in
    let e8 = length-append s.operator_lines (s.axioms ∷ s.ending) in
    record { variables_fit = omega arith; groups_fit = omega arith; goal_fits = omega arith; operators_fit = omega arith }

head_reads : (a b c : List (List ℕ)) (metric : Bool) (vs : List (List (List ℕ))) → length c < 2 ^ 64 - 1 → length vs ≤ 65536 → SpellsVersion a → SpellsMetric b metric → SpellsList SpellsVariable c vs
    → (n : ℕ) (rest : List (List ℕ)) → (m : ℕ) × (head_at (place n (a ++ (b ++ (c ++ rest)))) ≡ Ok (record { metric = metric; variables = vs }, place m rest))
unfolding head_at
head_reads a b c metric vs room few v m s n rest =
    let p = version_reads a v n (b ++ (c ++ rest)) in
    let q = metric_reads b metric m p.0 (c ++ rest) in
    let r = variables_read_again c vs room few s q.0 rest in
    (r.0, rw (p.1, q.1, r.1) refl)

body_reads : (ks : List ℕ) → AreSmall ks → (a b c d : List (List ℕ)) (axioms : List ℕ) (ending : List (List ℕ)) (gs : List (List Fact)) (body : Body)
    → length a < 2 ^ 64 - 1 → length c < 2 ^ 64 - 1 → length d < 2 ^ 64 - 1 → length body.operators ≤ 4294967295
    → SpellsList (SpellsGroup ks) a gs → SpellsState ks b body.initial → SpellsGoal ks c body.goal → SpellsList (SpellsOperator ks) d body.operators → SpellsCount axioms 0 → AllByRecursion (λ l. l ≡ []) ending
    → (n : ℕ) → body_at ks (place n (a ++ (b ++ (c ++ (d ++ axioms ∷ ending))))) ≡ Ok body
unfolding body_at
body_reads ks small a b c d axioms ending gs body ra rc rd few g s o p x w n =
    let r1 = groups_read_again ks small a gs ra g n (b ++ (c ++ (d ++ axioms ∷ ending))) in
    let r2 = state_reads ks small b body.initial s r1.0 (c ++ (d ++ axioms ∷ ending)) in
    let r3 = goal_reads ks small c body.goal rc o r2.0 (d ++ axioms ∷ ending) in
    let r4 = operators_read_again ks small d body.operators rd few p r3.0 (axioms ∷ ending) in
    rw (r1.1, r2.1, r3.1, r4.1, axioms_read axioms x r4.0 ending, empty_reads (r4.0 + 1) ending w) refl

short_variables : (vs : List (List (List ℕ))) (ls : List (List ℕ)) → SpellsParts SpellsVariable ls vs → has_long_range vs ≡ false
short_variables [] ls h = refl
short_variables (v ∷ vs) ls h = either_false _ _ (le-ltb 65536 (length v) h.3.few) (short_variables vs h.1 h.4)

pub task_again : (ls : List (List ℕ)) (task : FiniteDomainTask) → length ls < 2 ^ 64 - 1 → Spells ls task → (n : ℕ) → task_at (place n ls) ≡ Ok task
unfolding task_at
task_again ls task room s n =
    let fit = rooms ls task s room in
    let ks = map length task.value_names in
    let small : AreSmall ks = are_small task.value_names s.few_variables (short_variables task.value_names s.variables_are.others s.variables_are.items) in
    let behind : List (List ℕ) = s.group_lines ++ (s.state_lines ++ (s.goal_lines ++ (s.operator_lines ++ s.axioms ∷ s.ending))) in
    let h = head_reads s.version_lines s.metric_lines s.variable_lines task.metric task.value_names fit.variables_fit s.few_variables s.version_is s.metric_is s.variables_are n behind in
    let body : Body = record { initial = task.initial; goal = task.goal; operators = task.operators } in
    let b : body_at ks (place h.0 behind) ≡ Ok body = body_reads ks small s.group_lines s.state_lines s.goal_lines s.operator_lines s.axioms s.ending s.groups body fit.groups_fit fit.goal_fits fit.operators_fit s.few_operators s.groups_are s.state_is s.goal_is s.operators_are s.no_axioms s.ending_is h.0 in
    let e : task_at (place n (s.version_lines ++ (s.metric_lines ++ (s.variable_lines ++ behind)))) ≡ Ok task = rw (h.1, b) refl in
    subst (λ (z : List (List ℕ)). task_at (place n z) ≡ Ok task) (sym s.lines_are) e

pub task_complete : (text : List ℕ) (task : FiniteDomainTask) → length text < 2 ^ 64 - 1 → SpellsTask text task → task_in text ≡ Ok task
task_complete text task room s = task_again (lines text) task (lines_roomy text room) s 1
