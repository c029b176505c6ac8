-- What is read behind the variables is spelled.
use Rattle.std.proofs.Common.{◌≡◌, ℕ, zero, suc, ◌-◌, ◌<◌, ◌≤◌, ◌^◌, true, false, ltb, List, [], ◌∷◌, ◌++◌, length, map, get_or, refl, sym, ap, subst, ◌∙◌, arith, append_assoc, Some}
use Rattle.std.specs.Prelude.{Ok, codes}
use Rattle.std.proofs.lemmas.Bool.{ltb-true, ltb-false}
use Rattle.std.proofs.lemmas.List.{append-nil, length-append}
use Rattle.fdr.specs.declared.fact.Fact.{Fact}
use Rattle.fdr.specs.Tasks.{names_variable, are_distinct, has_long_range}
use Rattle.sasfile_reader.specs.declared.number.Number.{Number}
use Rattle.sasfile_reader.specs.declared.number.Number.TheVariants.{Natural, Negative}
use Rattle.sasfile_reader.specs.Lines.{words, number}
use Rattle.sasfile_reader.specs.SasTexts.{SpellsCount, SpellsFact, SpellsLines, SpellsList, SpellsGroup, SpellsValues, SpellsState, SpellsGoal}
use Rattle.sasfile_reader.specs.Reading.{Remaining, formed, ranged, pair, line_at, keyword_at, count_at, repeated, is_in_range, fact_of, fact_at, fact_step, facts_at, skip_step, group_step, groups_at, value_step, values_at, state_at, goal_at}
use Rattle.sasfile_reader.proofs.Steps.{ok_is, bind_ok, passed, held, formed_ok, ranged_ok, some_if}
use Rattle.sasfile_reader.proofs.Endings.{line_is}
use Rattle.sasfile_reader.proofs.Numbers.{pair_spelled}
use Rattle.sasfile_reader.proofs.Assignments.{or_left_false, or_right_false, fact_in_range, facts_assigned}
use Rattle.sasfile_reader.proofs.Sound.{Took, keyword_took, TookNumber, count_took, count_line, TookPart, TookItem, TookItems, repeated_each, TookWhole, Roomy, roomy_after, repeated_wholes, pushed_list}

-- ranges within the limits
pub record AreSmall (ks : List ℕ) : Type 0 where
  pub few : length ks ≤ 65536
  pub each : (v : ℕ) → get_or ks v 0 ≤ 65536

short_each : (vs : List (List (List ℕ))) → has_long_range vs ≡ false → (v : ℕ) → get_or (map length vs) v 0 ≤ 65536
short_each [] h v = omega arith
short_each (n ∷ ns) h zero = ltb-false 65536 (length n) (or_left_false (ltb 65536 (length n)) (has_long_range ns) h)
short_each (n ∷ ns) h (suc v) = short_each ns (or_right_false (ltb 65536 (length n)) (has_long_range ns) h) v

length_map : (vs : List (List (List ℕ))) → length (map length vs) ≡ length vs
length_map [] = refl
length_map (v ∷ vs) = ap suc (length_map vs)

pub are_small : (vs : List (List (List ℕ))) → length vs ≤ 65536 → has_long_range vs ≡ false → AreSmall (map length vs)
are_small vs few short = record { few = let e = length_map vs in omega arith; each = short_each vs short }

-- ---- facts

pub record AreNumbers (a b : Number) (f : Fact) : Type 0 where
  pub variable : a ≡ Natural f.variable
  pub value : b ≡ Natural f.value

pub fact_numbers : (ks : List ℕ) (a b : Number) (f : Fact) → fact_of ks a b ≡ Some f → AreNumbers a b f
fact_numbers ks (Natural v) (Natural x) f e =
    let p = some_if (is_in_range ks v x) (record { variable = v; value = x }) f e in
    record { variable = ap (λ (z : Fact). Natural z.variable) p.1; value = ap (λ (z : Fact). Natural z.value) p.1 }
fact_numbers ks (Natural v) (Negative x) f e = absurd cc
fact_numbers ks (Negative v) x f e = absurd cc

pub record TookFact (ks : List ℕ) (r q : Remaining) (f : Fact) : Type 0 where
  pub line : List ℕ
  pub lines_are : r.lines ≡ line ∷ q.lines
  pub is : SpellsFact ks line f

fact_took : (ks : List ℕ) → AreSmall ks → (r q : Remaining) (f : Fact) → fact_at ks r ≡ Ok (f, q) → TookFact ks r q f
unfolding fact_at
fact_took ks small r q f e =
    let l = bind_ok (line_at r) _ (f, q) e in
    let n = bind_ok (formed r.number (pair (words l.0.0))) _ (f, q) l.2 in
    let g = bind_ok (ranged r.number (fact_of ks n.0.0 n.0.1)) _ (f, q) n.2 in
    let same = ok_is (g.0, l.0.1) (f, q) g.2 in
    let fact : g.0 ≡ f = ap (λ (p : Fact × Remaining). p.0) same in
    let of : fact_of ks n.0.0 n.0.1 ≡ Some f = ranged_ok r.number _ g.0 g.1 ∙ ap (λ (z : Fact). Some z) fact in
    let inside = fact_in_range ks n.0.0 n.0.1 f of in
    let numbers = fact_numbers ks n.0.0 n.0.1 f of in
    let few = small.few in
    let range = small.each f.variable in
    let low : f.variable < length ks = inside.0 in
    let below : f.value < get_or ks f.variable 0 = inside.1 in
    let both : pair (words l.0.0) ≡ Some (Natural f.variable, Natural f.value) = formed_ok r.number _ n.0 n.1 ∙ rw (← numbers.variable, ← numbers.value) refl in
    record {
      line = l.0.0;
      lines_are = (line_is r l.0.0 l.0.1 l.1).0 ∙ ap (λ (p : Fact × Remaining). l.0.0 ∷ p.1.lines) same;
      is = (pair_spelled l.0.0 (words l.0.0) (Natural f.variable) (Natural f.value) refl both (omega arith) (omega arith), inside);
    }

fact_item : (ks : List ℕ) → AreSmall ks → (s t : List Fact) (r q : Remaining) → fact_step ks s r ≡ Ok (t, q) → TookItem (SpellsFact ks) (λ (zs : List Fact) (z : Fact). zs ++ z ∷ []) s t r q
unfolding fact_step
fact_item ks small s t r q e =
    let f = bind_ok (fact_at ks r) _ (t, q) e in
    let p = passed (names_variable s f.0.0.variable) _ _ (t, q) f.2 in
    let same = ok_is (s ++ f.0.0 ∷ [], f.0.1) (t, q) p.1 in
    let took = fact_took ks small r f.0.1 f.0.0 f.1 in
    record {
      item = f.0.0;
      line = took.line;
      lines_are = took.lines_are ∙ ap (λ (z : List Fact × Remaining). took.line ∷ z.1.lines) same;
      is = took.is;
      next = sym (ap (λ (z : List Fact × Remaining). z.0) same);
    }

skip_item : (ks : List ℕ) → AreSmall ks → (s t : Unit {0}) (r q : Remaining) → skip_step ks s r ≡ Ok (t, q) → TookItem (SpellsFact ks) (λ (u : Unit {0}) (z : Fact). tt) s t r q
unfolding skip_step
skip_item ks small s t r q e =
    let f = bind_ok (fact_at ks r) _ (t, q) e in
    let same = ok_is (tt, f.0.1) (t, q) f.2 in
    let took = fact_took ks small r f.0.1 f.0.0 f.1 in
    record {
      item = f.0.0;
      line = took.line;
      lines_are = took.lines_are ∙ ap (λ (z : Unit {0} × Remaining). took.line ∷ z.1.lines) same;
      is = took.is;
      next = refl;
    }

-- a count and that many lines
pub counted : {S X : Type 0} (P : List ℕ → X → Type 0) (push : S → X → S) (s t : S) (r m q : Remaining) (k : ℕ) → Roomy r → TookNumber r m (Natural k) → (items : TookItems P push k s t m q) → TookPart (λ ls. SpellsLines P ls items.items) r q
counted P push s t r m q k room number items =
    let inner : Roomy m = roomy_after r m (number.line ∷ []) number.took.lines_are room in
    let long = items.long in
    let small : k < 2 ^ 64 - 1 = omega (arith, ap length items.lines_are, length-append items.others q.lines) in
    record {
      part = number.line ∷ items.others;
      lines_are = number.took.lines_are ∙ ap (λ (z : List (List ℕ)). number.line ∷ z) items.lines_are;
      is = record {
        count = number.line;
        others = items.others;
        lines_are = refl;
        count_is = subst (SpellsCount number.line) (sym items.many) (count_line r m k number small);
        items = items.each;
      };
    }

pub facts_took : (ks : List ℕ) → AreSmall ks → (r q : Remaining) (fs : List Fact) → Roomy r → facts_at ks r ≡ Ok (fs, q) → TookPart (λ ls. SpellsLines (SpellsFact ks) ls fs) r q
unfolding facts_at
facts_took ks small r q fs room e =
    let n = bind_ok (count_at r) _ (fs, q) e in
    let number = count_took r n.0.1 n.0.0 n.1 in
    let items = repeated_each (SpellsFact ks) (λ (zs : List Fact) (z : Fact). zs ++ z ∷ []) (fact_step ks) (fact_item ks small) n.0.0 [] fs n.0.1 q n.2 in
    let are : items.items ≡ fs = sym (items.next ∙ pushed_list [] items.items) in
    subst (λ (z : List Fact). TookPart (λ ls. SpellsLines (SpellsFact ks) ls z) r q) are (counted (SpellsFact ks) _ [] fs r n.0.1 q n.0.0 room number items)

-- ---- mutex groups

-- lines between two words
pub around : (a b : List ℕ) (r m n q : Remaining) (part : List (List ℕ)) → Took r m a → m.lines ≡ part ++ n.lines → Took n q b → r.lines ≡ (a ∷ (part ++ b ∷ [])) ++ q.lines
around a b r m n q part first inner last =
    first.lines_are ∙ ap (λ (z : List (List ℕ)). a ∷ z) (inner ∙ ap (λ (z : List (List ℕ)). part ++ z) last.lines_are ∙ sym (append_assoc part (b ∷ []) q.lines))

group_whole : (ks : List ℕ) → AreSmall ks → (s t : Unit {0}) (r q : Remaining) → Roomy r → group_step ks s r ≡ Ok (t, q) → TookWhole (SpellsGroup ks) (λ (u : Unit {0}) (z : List Fact). tt) s t r q
unfolding group_step
group_whole ks small s t r q room e =
    let b = bind_ok (keyword_at (codes "begin_mutex_group") r) _ (t, q) e in
    let n = bind_ok (count_at b.0) _ (t, q) b.2 in
    let f = bind_ok (repeated (skip_step ks) n.0.0 tt n.0.1) _ (t, q) n.2 in
    let w = bind_ok (keyword_at (codes "end_mutex_group") f.0.1) _ (t, q) f.2 in
    let rest : w.0 ≡ q = ap (λ (z : Unit {0} × Remaining). z.1) (ok_is (tt, w.0) (t, q) w.2) in
    let first = keyword_took (codes "begin_mutex_group") r b.0 b.1 in
    let inner : Roomy b.0 = roomy_after r b.0 (codes "begin_mutex_group" ∷ []) first.lines_are room in
    let items = repeated_each (SpellsFact ks) (λ (u : Unit {0}) (z : Fact). tt) (skip_step ks) (skip_item ks small) n.0.0 tt f.0.0 n.0.1 f.0.1 f.1 in
    let facts = counted (SpellsFact ks) _ tt f.0.0 b.0 n.0.1 f.0.1 n.0.0 inner (count_took b.0 n.0.1 n.0.0 n.1) items in
    let last = keyword_took (codes "end_mutex_group") f.0.1 w.0 w.1 in
    record {
      item = items.items;
      part = codes "begin_mutex_group" ∷ (facts.part ++ codes "end_mutex_group" ∷ []);
      lines_are = around (codes "begin_mutex_group") (codes "end_mutex_group") r b.0 f.0.1 w.0 facts.part first facts.lines_are last ∙ ap (λ (z : Remaining). (codes "begin_mutex_group" ∷ (facts.part ++ codes "end_mutex_group" ∷ [])) ++ z.lines) rest;
      some = omega arith;
      is = record { inner = facts.part; lines_are = refl; facts_are = facts.is };
      next = refl;
    }

pub record TookGroups (ks : List ℕ) (r q : Remaining) : Type 0 where
  pub groups : List (List Fact)
  pub part : TookPart (λ ls. SpellsList (SpellsGroup ks) ls groups) r q

pub groups_took : (ks : List ℕ) → AreSmall ks → (r q : Remaining) (t : Unit {0}) → Roomy r → groups_at ks r ≡ Ok (t, q) → TookGroups ks r q
unfolding groups_at
groups_took ks small r q t room e =
    let n = bind_ok (count_at r) _ (t, q) e in
    let number = count_took r n.0.1 n.0.0 n.1 in
    let inner : Roomy n.0.1 = roomy_after r n.0.1 (number.line ∷ []) number.took.lines_are room in
    let items = repeated_wholes (SpellsGroup ks) (λ (u : Unit {0}) (z : List Fact). tt) (group_step ks) (group_whole ks small) n.0.0 tt t n.0.1 q inner n.2 in
    let long = items.long in
    let few : n.0.0 < 2 ^ 64 - 1 = omega (arith, ap length items.lines_are, length-append items.others q.lines) in
    record {
      groups = items.items;
      part = record {
        part = number.line ∷ items.others;
        lines_are = number.took.lines_are ∙ ap (λ (z : List (List ℕ)). number.line ∷ z) items.lines_are;
        is = record {
          count = number.line;
          others = items.others;
          lines_are = refl;
          count_is = subst (SpellsCount number.line) (sym items.many) (count_line r n.0.1 n.0.0 number few);
          items = items.each;
        };
      };
    }

-- ---- initial state and goal

record TookValues (ks before vs : List ℕ) (r q : Remaining) : Type 0 where
  items : List ℕ
  others : List (List ℕ)
  lines_are : r.lines ≡ others ++ q.lines
  next : vs ≡ before ++ items
  each : SpellsValues ks others items

record TookValue (k : ℕ) (before vs : List ℕ) (r q : Remaining) : Type 0 where
  item : ℕ
  line : List ℕ
  lines_are : r.lines ≡ line ∷ q.lines
  next : vs ≡ before ++ item ∷ []
  is : SpellsCount line item
  low : item < k

value_took : (k : ℕ) (before vs : List ℕ) (r q : Remaining) → k ≤ 65536 → value_step k before r ≡ Ok (vs, q) → TookValue k before vs r q
unfolding value_step
value_took k before vs r q small e =
    let n = bind_ok (count_at r) _ (vs, q) e in
    let p = held (ltb n.0.0 k) _ _ (vs, q) n.2 in
    let same = ok_is (before ++ n.0.0 ∷ [], n.0.1) (vs, q) p.1 in
    let number = count_took r n.0.1 n.0.0 n.1 in
    let low = ltb-true n.0.0 k p.0 in
    record {
      item = n.0.0;
      line = number.line;
      lines_are = number.took.lines_are ∙ ap (λ (z : List ℕ × Remaining). number.line ∷ z.1.lines) same;
      next = sym (ap (λ (z : List ℕ × Remaining). z.0) same);
      is = count_line r n.0.1 n.0.0 number (omega arith);
      low = low;
    }

values_took : (ks before vs : List ℕ) (r q : Remaining) → ((v : ℕ) → get_or ks v 0 ≤ 65536) → values_at ks before r ≡ Ok (vs, q) → TookValues ks before vs r q
unfolding values_at
values_took [] before vs r q small e =
    let same = ok_is (before, r) (vs, q) e in
    record {
      items = [];
      others = [];
      lines_are = ap (λ (z : List ℕ × Remaining). z.1.lines) same;
      next = sym (ap (λ (z : List ℕ × Remaining). z.0) same) ∙ sym (append-nil before);
      each = tt;
    }
values_took (k ∷ ks) before vs r q small e =
    let s = bind_ok (value_step k before r) (λ x. values_at ks x.0 x.1) (vs, q) e in
    let one = value_took k before s.0.0 r s.0.1 (small 0) s.1 in
    let more = values_took ks s.0.0 vs s.0.1 q (λ v. small (suc v)) s.2 in
    record {
      items = one.item ∷ more.items;
      others = one.line ∷ more.others;
      lines_are = one.lines_are ∙ ap (λ (z : List (List ℕ)). one.line ∷ z) more.lines_are;
      next = more.next ∙ ap (λ (z : List ℕ). z ++ more.items) one.next ∙ append_assoc before (one.item ∷ []) more.items;
      each = (one.is, one.low, more.each);
    }

pub state_took : (ks : List ℕ) → AreSmall ks → (vs : List ℕ) (r q : Remaining) → state_at ks r ≡ Ok (vs, q) → TookPart (λ ls. SpellsState ks ls vs) r q
unfolding state_at
state_took ks small vs r q e =
    let b = bind_ok (keyword_at (codes "begin_state") r) _ (vs, q) e in
    let v = bind_ok (values_at ks [] b.0) _ (vs, q) b.2 in
    let w = bind_ok (keyword_at (codes "end_state") v.0.1) _ (vs, q) v.2 in
    let same = ok_is (v.0.0, w.0) (vs, q) w.2 in
    let first = keyword_took (codes "begin_state") r b.0 b.1 in
    let last = keyword_took (codes "end_state") v.0.1 w.0 w.1 in
    let values = values_took ks [] v.0.0 b.0 v.0.1 small.each v.1 in
    let are : values.items ≡ vs = sym values.next ∙ ap (λ (z : List ℕ × Remaining). z.0) same in
    record {
      part = codes "begin_state" ∷ (values.others ++ codes "end_state" ∷ []);
      lines_are = around (codes "begin_state") (codes "end_state") r b.0 v.0.1 w.0 values.others first values.lines_are last ∙ ap (λ (z : List ℕ × Remaining). (codes "begin_state" ∷ (values.others ++ codes "end_state" ∷ [])) ++ z.1.lines) same;
      is = record { inner = values.others; lines_are = refl; values_are = subst (SpellsValues ks values.others) are values.each };
    }

pub goal_took : (ks : List ℕ) → AreSmall ks → (fs : List Fact) (r q : Remaining) → Roomy r → goal_at ks r ≡ Ok (fs, q) → TookPart (λ ls. SpellsGoal ks ls fs) r q
unfolding goal_at
goal_took ks small fs r q room e =
    let b = bind_ok (keyword_at (codes "begin_goal") r) _ (fs, q) e in
    let v = bind_ok (facts_at ks b.0) _ (fs, q) b.2 in
    let w = bind_ok (keyword_at (codes "end_goal") v.0.1) _ (fs, q) v.2 in
    let same = ok_is (v.0.0, w.0) (fs, q) w.2 in
    let are : v.0.0 ≡ fs = ap (λ (z : List Fact × Remaining). z.0) same in
    let first = keyword_took (codes "begin_goal") r b.0 b.1 in
    let last = keyword_took (codes "end_goal") v.0.1 w.0 w.1 in
    let facts = facts_took ks small b.0 v.0.1 v.0.0 (roomy_after r b.0 (codes "begin_goal" ∷ []) first.lines_are room) v.1 in
    let assigned = facts_assigned ks b.0 v.0.1 v.0.0 v.1 in
    record {
      part = codes "begin_goal" ∷ (facts.part ++ codes "end_goal" ∷ []);
      lines_are = around (codes "begin_goal") (codes "end_goal") r b.0 v.0.1 w.0 facts.part first facts.lines_are last ∙ ap (λ (z : List Fact × Remaining). (codes "begin_goal" ∷ (facts.part ++ codes "end_goal" ∷ [])) ++ z.1.lines) same;
      is = record {
        inner = facts.part;
        lines_are = refl;
        facts_are = subst (SpellsLines (SpellsFact ks) facts.part) are facts.is;
        distinct = subst (λ (z : List Fact). are_distinct z ≡ true) are assigned.distinct;
      };
    }
