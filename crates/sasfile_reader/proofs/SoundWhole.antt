-- What is read of operators, and of a whole text, is spelled.
use Rattle.std.proofs.Common.{◌≡◌, ℕ, suc, ◌+◌, ◌-◌, ◌<◌, ◌≤◌, ◌^◌, Bool, true, false, cond, eqb, ltb, List, [], ◌∷◌, ◌++◌, length, map, get_or, refl, sym, ap, subst, ◌∙◌, arith, append_assoc, Option, Some, None}
use Rattle.std.specs.Prelude.{Ok, codes}
use Rattle.std.specs.List.{AllByRecursion}
use Rattle.std.proofs.lemmas.Bool.{ltb-false, eqb-true}
use Rattle.std.proofs.lemmas.List.{append-nil, length-append}
use Rattle.fdr.specs.declared.fact.Fact.{Fact}
use Rattle.fdr.specs.Tasks.{Operator, FiniteDomainTask, names_variable, are_distinct, has_long_range}
use Rattle.sasfile_reader.specs.declared.number.Number.{Number}
use Rattle.sasfile_reader.specs.declared.number.Number.TheVariants.{Natural, Negative}
use Rattle.sasfile_reader.specs.declared.effects.Change.{Change}
use Rattle.sasfile_reader.specs.declared.effects.Quadruple.{Quadruple}
use Rattle.sasfile_reader.specs.Lines.{lines, words}
use Rattle.sasfile_reader.specs.SasTexts.{SpellsNumbers, SpellsCount, SpellsFact, SpellsParts, SpellsLines, SpellsList, SpellsVersion, SpellsMetric, SpellsVariable, SpellsGroup, SpellsState, SpellsGoal, before_number, IsBefore, SpellsChange, condition_before, conditions_of, after_of, SpellsOperator, Spells, SpellsTask}
use Rattle.sasfile_reader.specs.Reading.{◌>>=◌, Remaining, formed, ranged, pair, four, quadruple, is_natural, line_at, keyword_at, text_at, number_at, count_at, repeated, is_in_range, fact_of, fact_at, fact_step, facts_at, skip_step, group_step, groups_at, value_step, values_at, state_at, goal_at, Halves, is_conditional, before_of, change_with, change_to, change_of, change_in, change_at, is_named, conditions_with, with_change, change_step, halves_at, cost_at, operator_at, operator_step, operators_at, axioms_at, empty_from, Head, head_at, Body, body_at, version_at, metric_at, variables_at, joined, task_at, task_in}
use Rattle.sasfile_reader.specs.Reading as reading
use Rattle.sasfile_reader.proofs.Steps.{ok_is, bind_ok, passed, held, formed_ok, ranged_ok, some_is, some_if, repeated_keeps}
use Rattle.sasfile_reader.proofs.Endings.{line_is}
use Rattle.sasfile_reader.proofs.Numbers.{IsKept, kept_spelled}
use Rattle.sasfile_reader.proofs.Assignments.{or_left_false, or_right_false, facts_assigned, distinct_push, IsChange, change_ranged}
use Rattle.sasfile_reader.proofs.Sound.{keyword_took, text_took, TookNumber, number_took, count_took, count_line, is_natural_is, TookPart, TookItem, pushed, repeated_each, TookWhole, Roomy, roomy_after, repeated_wholes, pushed_list, version_took, metric_took, variables_took}
use Rattle.sasfile_reader.proofs.SoundBody.{AreSmall, are_small, fact_numbers, facts_took, counted, groups_took, state_took, goal_took}
use Rattle.sasfile_reader.proofs.Whole.{variables_read}
use Rattle.sasfile_reader.proofs.Cuts.{lines_roomy}

-- ---- effects

four_is : (c v b a : Option Number) (n : Quadruple) → four c v b a ≡ Some n → (c ≡ Some n.conditions) × (v ≡ Some n.variable) × (b ≡ Some n.before) × (a ≡ Some n.after)
four_is None v b a n e = absurd cc
four_is (Some c) None b a n e = absurd cc
four_is (Some c) (Some v) None a n e = absurd cc
four_is (Some c) (Some v) (Some b) None n e = absurd cc
four_is (Some c) (Some v) (Some b) (Some a) n e =
    let p = some_is (record { conditions = c; variable = v; before = b; after = a }) n e in
    (ap (λ (z : Quadruple). Some z.conditions) p, ap (λ (z : Quadruple). Some z.variable) p, ap (λ (z : Quadruple). Some z.before) p, ap (λ (z : Quadruple). Some z.after) p)

record AreKept (n : Quadruple) : Type 0 where
  conditions : IsKept n.conditions
  variable : IsKept n.variable
  before : IsKept n.before
  after : IsKept n.after

quadruple_spelled : (line : List ℕ) (ws : List (List ℕ)) (n : Quadruple) → words line ≡ ws → quadruple ws ≡ Some n → AreKept n → SpellsNumbers line (n.conditions ∷ n.variable ∷ n.before ∷ n.after ∷ [])
quadruple_spelled line [] n s e k = absurd cc
quadruple_spelled line (c ∷ []) n s e k = absurd cc
quadruple_spelled line (c ∷ v ∷ []) n s e k = absurd cc
quadruple_spelled line (c ∷ v ∷ b ∷ []) n s e k = absurd cc
quadruple_spelled line (c ∷ v ∷ b ∷ a ∷ []) n s e k =
    let p = four_is (reading.number c) (reading.number v) (reading.number b) (reading.number a) n e in
    rw (s, kept_spelled c n.conditions p.0 k.conditions, kept_spelled v n.variable p.1 k.variable, kept_spelled b n.before p.2 k.before, kept_spelled a n.after p.3 k.after) refl
quadruple_spelled line (c ∷ v ∷ b ∷ a ∷ w ∷ ws) n s e k = absurd cc

before_is : (range : ℕ) (b : Number) (o : Option ℕ) → before_of range b ≡ Some o → b ≡ before_number o
before_is range (Natural x) o e = let p = some_if (ltb x range) (Some x) o e in ap before_number p.1
before_is range (Negative x) o e =
    let p = some_if (eqb x 1) None o e in
    ap (λ (z : ℕ). Negative z) (eqb-true x 1 p.0) ∙ ap before_number p.1

-- the numbers of an effect
record IsQuadruple (n : Quadruple) (c : Change) : Type 0 where
  conditions : n.conditions ≡ Natural 0
  variable : n.variable ≡ Natural c.after.variable
  before : n.before ≡ before_number c.before
  after : n.after ≡ Natural c.after.value

change_with_is : (b : Option (Option ℕ)) (f : Fact) (c : Change) → change_with b f ≡ Some c → (b ≡ Some c.before) × (f ≡ c.after)
change_with_is None f c e = absurd cc
change_with_is (Some b) f c e =
    let same = some_is (record { before = b; after = f }) c e in
    (ap (λ (z : Change). Some z.before) same, ap (λ (z : Change). z.after) same)

change_to_is : (ks : List ℕ) (b : Number) (o : Option Fact) (c : Change) → change_to ks b o ≡ Some c → (o ≡ Some c.after) × (b ≡ before_number c.before)
change_to_is ks b None c e = absurd cc
change_to_is ks b (Some f) c e =
    let p = change_with_is (before_of (get_or ks f.variable 0) b) f c e in
    (ap (λ (z : Fact). Some z) p.1, before_is (get_or ks f.variable 0) b c.before p.0)

change_if : (b : Bool) (o : Option Change) (c : Change) → cond b o None ≡ Some c → (b ≡ true) × (o ≡ Some c)
change_if true o c e = (refl, e)
change_if false o c e = absurd cc

change_numbers : (ks : List ℕ) (n : Quadruple) (c : Change) → change_of ks n ≡ Some c → IsQuadruple n c
change_numbers ks n c e =
    let p = change_if (is_natural 0 n.conditions) (change_to ks n.before (fact_of ks n.variable n.after)) c e in
    let q = change_to_is ks n.before (fact_of ks n.variable n.after) c p.1 in
    let f = fact_numbers ks n.variable n.after c.after q.0 in
    record { conditions = is_natural_is 0 n.conditions p.0; variable = f.variable; before = q.1; after = f.value }

before_kept : (range : ℕ) (o : Option ℕ) → range ≤ 65536 → IsBefore range o → IsKept (before_number o)
before_kept range None small h = omega arith
before_kept range (Some x) small h = omega arith

before_low : (range : ℕ) (o : Option ℕ) → ((x : ℕ) → o ≡ Some x → x < range) → IsBefore range o
before_low range None h = tt
before_low range (Some x) h = h x refl

record TookChange (ks : List ℕ) (r q : Remaining) (c : Change) : Type 0 where
  line : List ℕ
  lines_are : r.lines ≡ line ∷ q.lines
  is : SpellsChange ks line c

change_took : (ks : List ℕ) → AreSmall ks → (r q : Remaining) (c : Change) → change_at ks r ≡ Ok (c, q) → TookChange ks r q c
unfolding change_at
change_took ks small r q c e =
    let l = bind_ok (line_at r) _ (c, q) e in
    let g = bind_ok (change_in r.number ks (words l.0.0)) _ (c, q) l.2 in
    let same = ok_is (g.0, l.0.1) (c, q) g.2 in
    let t = passed (is_conditional (words l.0.0)) _ (formed r.number (quadruple (words l.0.0)) >>= λ numbers. ranged r.number (change_of ks numbers)) g.0 g.1 in
    let n = bind_ok (formed r.number (quadruple (words l.0.0))) _ g.0 t.1 in
    let of : change_of ks n.0 ≡ Some c = ranged_ok r.number (change_of ks n.0) g.0 n.2 ∙ ap (λ (z : Change × Remaining). Some z.0) same in
    let numbers = change_numbers ks n.0 c of in
    let inside : IsChange ks c = change_ranged ks n.0 c of in
    let few = small.few in
    let range = small.each c.after.variable in
    let low : c.after.variable < length ks = inside.after.0 in
    let below : c.after.value < get_or ks c.after.variable 0 = inside.after.1 in
    let before = before_low (get_or ks c.after.variable 0) c.before inside.before in
    let whole : Quadruple = record { conditions = Natural 0; variable = Natural c.after.variable; before = before_number c.before; after = Natural c.after.value } in
    let is : quadruple (words l.0.0) ≡ Some whole = formed_ok r.number _ n.0 n.1 ∙ rw (← numbers.conditions, ← numbers.variable, ← numbers.before, ← numbers.after) refl in
    record {
      line = l.0.0;
      lines_are = (line_is r l.0.0 l.0.1 l.1).0 ∙ ap (λ (p : Change × Remaining). l.0.0 ∷ p.1.lines) same;
      is = record {
        numbers = quadruple_spelled l.0.0 (words l.0.0) whole refl is (record { conditions = omega arith; variable = omega arith; before = before_kept (get_or ks c.after.variable 0) c.before range before; after = omega arith });
        after = inside.after;
        before = before;
      };
    }

change_item : (ks : List ℕ) → AreSmall ks → (s t : Halves) (r q : Remaining) → change_step ks s r ≡ Ok (t, q) → TookItem (SpellsChange ks) with_change s t r q
unfolding change_step
change_item ks small s t r q e =
    let c = bind_ok (change_at ks r) _ (t, q) e in
    let p = passed (is_named s c.0.0.after.variable) _ _ (t, q) c.2 in
    let same = ok_is (with_change s c.0.0, c.0.1) (t, q) p.1 in
    let took = change_took ks small r c.0.1 c.0.0 c.1 in
    record {
      item = c.0.0;
      line = took.line;
      lines_are = took.lines_are ∙ ap (λ (z : Halves × Remaining). took.line ∷ z.1.lines) same;
      is = took.is;
      next = sym (ap (λ (z : Halves × Remaining). z.0) same);
    }

conditions_one : (fs : List Fact) (v : ℕ) (b : Option ℕ) (others : List Fact) → conditions_with fs v b ++ others ≡ fs ++ condition_before v b others
conditions_one fs v None others = refl
conditions_one fs v (Some x) others = append_assoc fs (record { variable = v; value = x } ∷ []) others

pub pushed_precondition : (h : Halves) (cs : List Change) → (pushed with_change h cs).precondition ≡ h.precondition ++ conditions_of cs
pushed_precondition h [] = sym (append-nil h.precondition)
pushed_precondition h (c ∷ cs) = pushed_precondition (with_change h c) cs ∙ conditions_one h.precondition c.after.variable c.before (conditions_of cs)

pub pushed_effect : (h : Halves) (cs : List Change) → (pushed with_change h cs).effect ≡ h.effect ++ map after_of cs
pushed_effect h [] = sym (append-nil h.effect)
pushed_effect h (c ∷ cs) = pushed_effect (with_change h c) cs ∙ append_assoc h.effect (c.after ∷ []) (map after_of cs)

-- ---- no variable twice

pub names_front : (fs : List Fact) (f : Fact) (v : ℕ) → names_variable (fs ++ f ∷ []) v ≡ false → names_variable fs v ≡ false
names_front [] f v e = refl
names_front (g ∷ fs) f v e =
    let first : eqb g.variable v ≡ false = or_left_false (eqb g.variable v) (names_variable (fs ++ f ∷ []) v) e in
    rw first (names_front fs f v (or_right_false (eqb g.variable v) (names_variable (fs ++ f ∷ []) v) e))

names_both : (fs gs : List Fact) (v : ℕ) → names_variable fs v ≡ false → names_variable gs v ≡ false → names_variable (fs ++ gs) v ≡ false
names_both [] gs v p q = q
names_both (f ∷ fs) gs v p q =
    let first : eqb f.variable v ≡ false = or_left_false (eqb f.variable v) (names_variable fs v) p in
    rw first (names_both fs gs v (or_right_false (eqb f.variable v) (names_variable fs v) p) q)

names_less : (fs : List Fact) (v w : ℕ) (b : Option ℕ) → names_variable (conditions_with fs v b) w ≡ false → names_variable fs w ≡ false
names_less fs v w None e = e
names_less fs v w (Some x) e = names_front fs (record { variable = v; value = x }) w e

record StayDistinct (prevail : List Fact) (h : Halves) : Type 0 where
  distinct : are_distinct (prevail ++ h.effect) ≡ true
  covers : (v : ℕ) → names_variable h.precondition v ≡ false → names_variable prevail v ≡ false

distinct_keeps : (ks : List ℕ) (prevail : List Fact) (h k : Halves) (r q : Remaining) → StayDistinct prevail h → change_step ks h r ≡ Ok (k, q) → StayDistinct prevail k
unfolding change_step
distinct_keeps ks prevail h k r q d e =
    let c = bind_ok (change_at ks r) _ (k, q) e in
    let p = passed (is_named h c.0.0.after.variable) _ _ (k, q) c.2 in
    let same : with_change h c.0.0 ≡ k = ap (λ (z : Halves × Remaining). z.0) (ok_is (with_change h c.0.0, c.0.1) (k, q) p.1) in
    let v = c.0.0.after.variable in
    let none : names_variable h.precondition v ≡ false = or_left_false (names_variable h.precondition v) (names_variable h.effect v) p.0 in
    let fresh : names_variable h.effect v ≡ false = or_right_false (names_variable h.precondition v) (names_variable h.effect v) p.0 in
    let unnamed = names_both prevail h.effect v (d.covers v none) fresh in
    let longer = distinct_push (prevail ++ h.effect) c.0.0.after d.distinct unnamed in
    subst (StayDistinct prevail) same (record {
      distinct = subst (λ (z : List Fact). are_distinct z ≡ true) (append_assoc prevail h.effect (c.0.0.after ∷ [])) longer;
      covers = λ w n. d.covers w (names_less h.precondition v w c.0.0.before n);
    })

-- ---- operators

record TookHalves (ks : List ℕ) (r q : Remaining) (h : Halves) : Type 0 where
  prevail : List Fact
  changes : List Change
  first : List (List ℕ)
  second : List (List ℕ)
  lines_are : r.lines ≡ first ++ (second ++ q.lines)
  prevail_are : SpellsLines (SpellsFact ks) first prevail
  changes_are : SpellsLines (SpellsChange ks) second changes
  distinct : are_distinct (prevail ++ map after_of changes) ≡ true
  precondition_is : h.precondition ≡ prevail ++ conditions_of changes
  effect_is : h.effect ≡ map after_of changes

halves_took : (ks : List ℕ) → AreSmall ks → (r q : Remaining) (h : Halves) → Roomy r → halves_at ks r ≡ Ok (h, q) → TookHalves ks r q h
unfolding halves_at
halves_took ks small r q h room e =
    let p = bind_ok (facts_at ks r) _ (h, q) e in
    let n = bind_ok (count_at p.0.1) _ (h, q) p.2 in
    let start : Halves = record { precondition = p.0.0; effect = [] } in
    let facts = facts_took ks small r p.0.1 p.0.0 room p.1 in
    let inner : Roomy p.0.1 = roomy_after r p.0.1 facts.part facts.lines_are room in
    let items = repeated_each (SpellsChange ks) with_change (change_step ks) (change_item ks small) n.0.0 start h n.0.1 q n.2 in
    let lines = counted (SpellsChange ks) with_change start h p.0.1 n.0.1 q n.0.0 inner (count_took p.0.1 n.0.1 n.0.0 n.1) items in
    let stay0 : StayDistinct p.0.0 start = record { distinct = subst (λ (z : List Fact). are_distinct z ≡ true) (sym (append-nil p.0.0)) (facts_assigned ks r p.0.1 p.0.0 p.1).distinct; covers = λ v z. z } in
    let stay = repeated_keeps (StayDistinct p.0.0) (change_step ks) (distinct_keeps ks p.0.0) n.0.0 start h n.0.1 q stay0 n.2 in
    let effect : h.effect ≡ map after_of items.items = ap (λ (z : Halves). z.effect) items.next ∙ pushed_effect start items.items in
    record {
      prevail = p.0.0;
      changes = items.items;
      first = facts.part;
      second = lines.part;
      lines_are = facts.lines_are ∙ ap (λ (z : List (List ℕ)). facts.part ++ z) lines.lines_are;
      prevail_are = facts.is;
      changes_are = lines.is;
      distinct = subst (λ (z : List Fact). are_distinct (p.0.0 ++ z) ≡ true) effect stay.distinct;
      precondition_is = ap (λ (z : Halves). z.precondition) items.next ∙ pushed_precondition start items.items;
      effect_is = effect;
    }

record TookCost (r q : Remaining) (k : ℕ) : Type 0 where
  number : TookNumber r q (Natural k)
  cheap : k ≤ 2147483647

cost_took : (r q : Remaining) (k : ℕ) → cost_at r ≡ Ok (k, q) → TookCost r q k
unfolding cost_at
cost_took r q k e =
    let c = bind_ok (count_at r) _ (k, q) e in
    let p = passed (ltb 2147483647 c.0.0) _ (Ok c.0) (k, q) c.2 in
    subst (λ (x : ℕ × Remaining). TookCost r x.1 x.0) (ok_is c.0 (k, q) p.1) (record { number = count_took r c.0.1 c.0.0 c.1; cheap = ltb-false 2147483647 c.0.0 p.0 })

-- the lines of an operator
abbrev operator_lines : List ℕ → List (List ℕ) → List (List ℕ) → List ℕ → List (List ℕ)
operator_lines name first second cost = codes "begin_operator" ∷ name ∷ (first ++ (second ++ cost ∷ codes "end_operator" ∷ []))

operator_lines_then : (name : List ℕ) (first second : List (List ℕ)) (cost : List ℕ) (rest : List (List ℕ))
    → codes "begin_operator" ∷ name ∷ (first ++ (second ++ cost ∷ codes "end_operator" ∷ rest)) ≡ operator_lines name first second cost ++ rest
operator_lines_then name first second cost rest =
    ap (λ (z : List (List ℕ)). codes "begin_operator" ∷ name ∷ z)
    (ap (λ (z : List (List ℕ)). first ++ z) (sym (append_assoc second (cost ∷ codes "end_operator" ∷ []) rest))
    ∙ sym (append_assoc first (second ++ cost ∷ codes "end_operator" ∷ []) rest))

operator_took : (ks : List ℕ) → AreSmall ks → (r q : Remaining) (o : Operator) → Roomy r → operator_at ks r ≡ Ok (o, q) → TookPart (λ ls. SpellsOperator ks ls o) r q
unfolding operator_at
operator_took ks small r q o room e =
    let b = bind_ok (keyword_at (codes "begin_operator") r) _ (o, q) e in
    let n = bind_ok (text_at b.0) _ (o, q) b.2 in
    let h = bind_ok (halves_at ks n.0.1) _ (o, q) n.2 in
    let c = bind_ok (cost_at h.0.1) _ (o, q) h.2 in
    let w = bind_ok (keyword_at (codes "end_operator") c.0.1) _ (o, q) c.2 in
    let made : Operator = record { name = n.0.0; precondition = h.0.0.precondition; effect = h.0.0.effect; cost = c.0.0 } in
    let same = ok_is (made, w.0) (o, q) w.2 in
    let first = keyword_took (codes "begin_operator") r b.0 b.1 in
    let name = text_took b.0 n.0.1 n.0.0 n.1 in
    let room1 : Roomy b.0 = roomy_after r b.0 (codes "begin_operator" ∷ []) first.lines_are room in
    let room2 : Roomy n.0.1 = roomy_after b.0 n.0.1 (n.0.0 ∷ []) name.0.lines_are room1 in
    let halves = halves_took ks small n.0.1 h.0.1 h.0.0 room2 h.1 in
    let cost = cost_took h.0.1 c.0.1 c.0.0 c.1 in
    let last = keyword_took (codes "end_operator") c.0.1 w.0 w.1 in
    let cheap = cost.cheap in
    let tail : h.0.1.lines ≡ cost.number.line ∷ codes "end_operator" ∷ w.0.lines = cost.number.took.lines_are ∙ ap (λ (z : List (List ℕ)). cost.number.line ∷ z) last.lines_are in
    let inner : n.0.1.lines ≡ halves.first ++ (halves.second ++ cost.number.line ∷ codes "end_operator" ∷ w.0.lines) = halves.lines_are ∙ ap (λ (z : List (List ℕ)). halves.first ++ (halves.second ++ z)) tail in
    let all : r.lines ≡ codes "begin_operator" ∷ n.0.0 ∷ (halves.first ++ (halves.second ++ cost.number.line ∷ codes "end_operator" ∷ w.0.lines)) =
    first.lines_are ∙ ap (λ (z : List (List ℕ)). codes "begin_operator" ∷ z) (name.0.lines_are ∙ ap (λ (z : List (List ℕ)). n.0.0 ∷ z) inner) in
    let is : SpellsOperator ks (operator_lines n.0.0 halves.first halves.second cost.number.line) made = record {
      prevail = halves.prevail;
      changes = halves.changes;
      prevail_lines = halves.first;
      change_lines = halves.second;
      cost = cost.number.line;
      lines_are = refl;
      name_is = name.1;
      prevail_are = halves.prevail_are;
      changes_are = halves.changes_are;
      cost_is = count_line h.0.1 c.0.1 c.0.0 cost.number (omega arith);
      cheap = cheap;
      distinct = halves.distinct;
      precondition_is = halves.precondition_is;
      effect_is = halves.effect_is;
    } in
    record {
      part = operator_lines n.0.0 halves.first halves.second cost.number.line;
      lines_are = all ∙ operator_lines_then n.0.0 halves.first halves.second cost.number.line w.0.lines ∙ ap (λ (z : Operator × Remaining). operator_lines n.0.0 halves.first halves.second cost.number.line ++ z.1.lines) same;
      is = subst (SpellsOperator ks (operator_lines n.0.0 halves.first halves.second cost.number.line)) (ap (λ (z : Operator × Remaining). z.0) same) is;
    }

operator_whole : (ks : List ℕ) → AreSmall ks → (s t : List Operator) (r q : Remaining) → Roomy r → operator_step ks s r ≡ Ok (t, q) → TookWhole (SpellsOperator ks) (λ (zs : List Operator) (z : Operator). zs ++ z ∷ []) s t r q
operator_whole ks small s t r q room e =
    let b = bind_ok (operator_at ks r) _ (t, q) e in
    let same = ok_is (s ++ b.0.0 ∷ [], b.0.1) (t, q) b.2 in
    let took = operator_took ks small r b.0.1 b.0.0 room b.1 in
    record {
      item = b.0.0;
      part = took.part;
      lines_are = took.lines_are ∙ ap (λ (z : List Operator × Remaining). took.part ++ z.1.lines) same;
      some = let e : length took.part ≡ suc _ = ap length took.is.lines_are in omega arith;
      is = took.is;
      next = sym (ap (λ (z : List Operator × Remaining). z.0) same);
    }

record TookOperators (ks : List ℕ) (r q : Remaining) (os : List Operator) : Type 0 where
  part : TookPart (λ ls. SpellsList (SpellsOperator ks) ls os) r q
  few : length os ≤ 4294967295

operators_took : (ks : List ℕ) → AreSmall ks → (r q : Remaining) (os : List Operator) → Roomy r → operators_at ks r ≡ Ok (os, q) → TookOperators ks r q os
unfolding operators_at
operators_took ks small r q os room e =
    let n = bind_ok (count_at r) _ (os, q) e in
    let p = passed (ltb 4294967295 n.0.0) _ (repeated (operator_step ks) n.0.0 [] n.0.1) (os, q) n.2 in
    let number = count_took r n.0.1 n.0.0 n.1 in
    let inner : Roomy n.0.1 = roomy_after r n.0.1 (number.line ∷ []) number.took.lines_are room in
    let items = repeated_wholes (SpellsOperator ks) (λ (zs : List Operator) (z : Operator). zs ++ z ∷ []) (operator_step ks) (operator_whole ks small) n.0.0 [] os n.0.1 q inner p.1 in
    let are : items.items ≡ os = sym (items.next ∙ pushed_list [] items.items) in
    let many : length os ≡ n.0.0 = ap length (sym are) ∙ items.many in
    let few = ltb-false 4294967295 n.0.0 p.0 in
    record {
      part = record {
        part = number.line ∷ items.others;
        lines_are = number.took.lines_are ∙ ap (λ (z : List (List ℕ)). number.line ∷ z) items.lines_are;
        is = record {
          count = number.line;
          others = items.others;
          lines_are = refl;
          count_is = subst (SpellsCount number.line) (sym many) (count_line r n.0.1 n.0.0 number (omega arith));
          items = subst (SpellsParts (SpellsOperator ks) items.others) are items.each;
        };
      };
      few = omega arith;
    }

-- ---- the end

axioms_took : (r q : Remaining) → axioms_at r ≡ Ok q → TookNumber r q (Natural 0)
unfolding axioms_at
axioms_took r q e =
    let n = bind_ok (number_at r) _ q e in
    let h = held (is_natural 0 n.0.0) _ (Ok n.0.1) q n.2 in
    subst (λ (z : Remaining). TookNumber r z (Natural 0)) (ok_is n.0.1 q h.1) (subst (λ (z : Number). TookNumber r n.0.1 z) (is_natural_is 0 n.0.0 h.0) (number_took r n.0.1 n.0.0 n.1))

empty_all : (n : ℕ) (ls : List (List ℕ)) (t : Unit {0}) → empty_from n ls ≡ Ok t → AllByRecursion (λ l. l ≡ []) ls
unfolding empty_from
empty_all n [] t e = tt
empty_all n ([] ∷ ls) t e = (refl, empty_all (n + 1) ls t e)
empty_all n ((b ∷ bs) ∷ ls) t e = absurd cc

-- ---- the whole

record TookHead (r q : Remaining) (h : Head) : Type 0 where
  version : List (List ℕ)
  metric : List (List ℕ)
  variables : List (List ℕ)
  lines_are : r.lines ≡ version ++ (metric ++ (variables ++ q.lines))
  version_is : SpellsVersion version
  metric_is : SpellsMetric metric h.metric
  variables_are : SpellsList SpellsVariable variables h.variables
  few : length h.variables ≤ 65536
  short : has_long_range h.variables ≡ false

head_took : (r q : Remaining) (h : Head) → Roomy r → head_at r ≡ Ok (h, q) → TookHead r q h
unfolding head_at
head_took r q h room e =
    let v = bind_ok (version_at r) _ (h, q) e in
    let m = bind_ok (metric_at v.0) _ (h, q) v.2 in
    let vs = bind_ok (variables_at m.0.1) _ (h, q) m.2 in
    let made : Head = record { metric = m.0.0; variables = vs.0.0 } in
    let version = version_took r v.0 v.1 in
    let metric = metric_took v.0 m.0.1 m.0.0 m.1 in
    let room1 : Roomy v.0 = roomy_after r v.0 version.part version.lines_are room in
    let room2 : Roomy m.0.1 = roomy_after v.0 m.0.1 metric.part metric.lines_are room1 in
    let variables = variables_took m.0.1 vs.0.1 vs.0.0 room2 vs.1 in
    subst (λ (x : Head × Remaining). TookHead r x.1 x.0) (ok_is (made, vs.0.1) (h, q) vs.2) (record {
      version = version.part;
      metric = metric.part;
      variables = variables.part.part;
      lines_are = version.lines_are ∙ ap (λ (z : List (List ℕ)). version.part ++ z) (metric.lines_are ∙ ap (λ (z : List (List ℕ)). metric.part ++ z) variables.part.lines_are);
      version_is = version.is;
      metric_is = metric.is;
      variables_are = variables.part.is;
      few = variables.few;
      short = (variables_read vs.0.0 m.0.1 vs.0.1 vs.1).short;
    })

record TookBody (ks : List ℕ) (r : Remaining) (b : Body) : Type 0 where
  group_lines : List (List ℕ)
  state : List (List ℕ)
  goal : List (List ℕ)
  operators : List (List ℕ)
  axioms : List ℕ
  ending : List (List ℕ)
  groups : List (List Fact)
  lines_are : r.lines ≡ group_lines ++ (state ++ (goal ++ (operators ++ axioms ∷ ending)))
  groups_are : SpellsList (SpellsGroup ks) group_lines groups
  state_is : SpellsState ks state b.initial
  goal_is : SpellsGoal ks goal b.goal
  operators_are : SpellsList (SpellsOperator ks) operators b.operators
  few : length b.operators ≤ 4294967295
  no_axioms : SpellsCount axioms 0
  ending_is : AllByRecursion (λ l. l ≡ []) ending

body_took : (ks : List ℕ) → AreSmall ks → (r : Remaining) (b : Body) → Roomy r → body_at ks r ≡ Ok b → TookBody ks r b
unfolding body_at
body_took ks small r b room e =
    let g = bind_ok (groups_at ks r) _ b e in
    let s = bind_ok (state_at ks g.0.1) _ b g.2 in
    let o = bind_ok (goal_at ks s.0.1) _ b s.2 in
    let p = bind_ok (operators_at ks o.0.1) _ b o.2 in
    let a = bind_ok (axioms_at p.0.1) _ b p.2 in
    let w = bind_ok (empty_from a.0.number a.0.lines) _ b a.2 in
    let groups = groups_took ks small r g.0.1 g.0.0 room g.1 in
    let room1 : Roomy g.0.1 = roomy_after r g.0.1 groups.part.part groups.part.lines_are room in
    let state = state_took ks small s.0.0 g.0.1 s.0.1 s.1 in
    let room2 : Roomy s.0.1 = roomy_after g.0.1 s.0.1 state.part state.lines_are room1 in
    let goal = goal_took ks small o.0.0 s.0.1 o.0.1 room2 o.1 in
    let room3 : Roomy o.0.1 = roomy_after s.0.1 o.0.1 goal.part goal.lines_are room2 in
    let operators = operators_took ks small o.0.1 p.0.1 p.0.0 room3 p.1 in
    let axioms = axioms_took p.0.1 a.0 a.1 in
    subst (TookBody ks r) (ok_is (record { initial = s.0.0; goal = o.0.0; operators = p.0.0 }) b w.2) (record {
      group_lines = groups.part.part;
      state = state.part;
      goal = goal.part;
      operators = operators.part.part;
      axioms = axioms.line;
      ending = a.0.lines;
      groups = groups.groups;
      lines_are = groups.part.lines_are ∙ ap (λ (z : List (List ℕ)). groups.part.part ++ z) (state.lines_are ∙ ap (λ (z : List (List ℕ)). state.part ++ z) (goal.lines_are ∙ ap (λ (z : List (List ℕ)). goal.part ++ z) (operators.part.lines_are ∙ ap (λ (z : List (List ℕ)). operators.part.part ++ z) axioms.took.lines_are)));
      groups_are = groups.part.is;
      state_is = state.is;
      goal_is = goal.is;
      operators_are = operators.part.is;
      few = operators.few;
      no_axioms = count_line p.0.1 a.0 0 axioms (omega arith);
      ending_is = empty_all a.0.number a.0.lines w.0 w.1;
    })

joined_lines : (r q : Remaining) (h : Head) (b : Body) → TookHead r q h → TookBody (map length h.variables) q b → Spells r.lines (joined h b)
joined_lines r q h b first second = record {
  version_lines = first.version;
  metric_lines = first.metric;
  variable_lines = first.variables;
  group_lines = second.group_lines;
  state_lines = second.state;
  goal_lines = second.goal;
  operator_lines = second.operators;
  axioms = second.axioms;
  ending = second.ending;
  groups = second.groups;
  lines_are = first.lines_are ∙ ap (λ (z : List (List ℕ)). first.version ++ (first.metric ++ (first.variables ++ z))) second.lines_are;
  version_is = first.version_is;
  metric_is = first.metric_is;
  variables_are = first.variables_are;
  few_variables = first.few;
  groups_are = second.groups_are;
  state_is = second.state_is;
  goal_is = second.goal_is;
  operators_are = second.operators_are;
  few_operators = second.few;
  no_axioms = second.no_axioms;
  ending_is = second.ending_is;
}

roomy_behind : (r q : Remaining) (h : Head) → Roomy r → TookHead r q h → Roomy q
roomy_behind r q h room t =
    omega (arith, ap length t.lines_are, length-append t.version (t.metric ++ (t.variables ++ q.lines)), length-append t.metric (t.variables ++ q.lines), length-append t.variables q.lines)

pub task_lines : (r : Remaining) (task : FiniteDomainTask) → Roomy r → task_at r ≡ Ok task → Spells r.lines task
unfolding task_at
task_lines r task room e =
    let h = bind_ok (head_at r) _ task e in
    let b = bind_ok (body_at (map length h.0.0.variables) h.0.1) _ task h.2 in
    let first = head_took r h.0.1 h.0.0 room h.1 in
    let second = body_took (map length h.0.0.variables) (are_small h.0.0.variables first.few first.short) h.0.1 b.0 (roomy_behind r h.0.1 h.0.0 room first) b.1 in
    subst (Spells r.lines) (ok_is (joined h.0.0 b.0) task b.2) (joined_lines r h.0.1 h.0.0 b.0 first second)

pub task_sound : (text : List ℕ) (task : FiniteDomainTask) → length text < 2 ^ 64 - 1 → task_in text ≡ Ok task → SpellsTask text task
task_sound text task room e = task_lines (record { number = 1; lines = lines text }) task (lines_roomy text room) e
