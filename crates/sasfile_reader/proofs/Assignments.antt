-- Lists of facts that are read are assignments.
use Rattle.std.proofs.Common.{◌≡◌, ℕ, ◌<◌, Bool, true, false, ◌&&◌, cond, eqb, ltb, List, [], ◌∷◌, ◌++◌, length, get_or, refl, sym, ap, subst, ◌∙◌, arith, Option, Some, None}
use Rattle.std.specs.Prelude.{Ok, not, ◌||◌}
use Rattle.std.proofs.lemmas.Bool.{ltb-true}
use Rattle.std.proofs.lemmas.List.Elements.{All-push, All-nil}
use Rattle.fdr.specs.declared.fact.Fact.{Fact}
use Rattle.fdr.specs.Tasks.{IsInRange, names_variable, are_distinct, IsAssignment}
use Rattle.sasfile_reader.specs.declared.number.Number.{Number}
use Rattle.sasfile_reader.specs.declared.number.Number.TheVariants.{Natural, Negative}
use Rattle.sasfile_reader.specs.declared.effects.Change.{Change}
use Rattle.sasfile_reader.specs.declared.effects.Quadruple.{Quadruple}
use Rattle.sasfile_reader.specs.Lines.{words}
use Rattle.sasfile_reader.specs.Reading.{◌>>=◌, Remaining, formed, ranged, pair, is_in_range, fact_of, line_at, fact_at, fact_step, facts_at, count_at, Halves, is_natural, before_of, change_with, change_to, change_of, is_conditional, quadruple, change_in, change_at, is_named, conditions_with, with_change, change_step, halves_at}
use Rattle.sasfile_reader.proofs.Steps.{ok_is, bind_ok, passed, ranged_ok, some_is, some_if, repeated_keeps}

-- ---- tests

pub and_left : (a b : Bool) → (a && b) ≡ true → a ≡ true
and_left true b e = refl
and_left false b e = absurd cc

pub and_right : (a b : Bool) → (a && b) ≡ true → b ≡ true
and_right true b e = e
and_right false b e = absurd cc

pub or_left_false : (a b : Bool) → (a || b) ≡ false → a ≡ false
or_left_false true b e = absurd cc
or_left_false false b e = refl

pub or_right_false : (a b : Bool) → (a || b) ≡ false → b ≡ false
or_right_false true b e = absurd cc
or_right_false false b e = e

pub both_true : (a b : Bool) → a ≡ true → b ≡ true → (a && b) ≡ true
both_true a b p q = rw (p, q) refl

pub swap_false : (a b : ℕ) → eqb a b ≡ false → eqb b a ≡ false
swap_false a b e = grind arith

pub not_false : (b : Bool) → not b ≡ true → b ≡ false
not_false true e = absurd cc
not_false false e = refl

false_not : (b : Bool) → b ≡ false → not b ≡ true
false_not b e = rw e refl

-- ---- one more fact

pub names_push : (fs : List Fact) (f : Fact) (v : ℕ) → names_variable fs v ≡ false → eqb f.variable v ≡ false → names_variable (fs ++ f ∷ []) v ≡ false
names_push [] f v n e = rw e refl
names_push (g ∷ fs) f v n e =
    let first : eqb g.variable v ≡ false = or_left_false (eqb g.variable v) (names_variable fs v) n in
    let others : names_variable fs v ≡ false = or_right_false (eqb g.variable v) (names_variable fs v) n in
    rw (first, names_push fs f v others e) refl

pub distinct_push : (fs : List Fact) (f : Fact) → are_distinct fs ≡ true → names_variable fs f.variable ≡ false → are_distinct (fs ++ f ∷ []) ≡ true
distinct_push [] f d n = refl
distinct_push (g ∷ fs) f d n =
    let first = names_push fs f g.variable (not_false _ (and_left _ _ d)) (swap_false g.variable f.variable (or_left_false _ _ n)) in
    both_true _ _ (false_not _ first) (distinct_push fs f (and_right _ _ d) (or_right_false _ _ n))

pub assigned_none : (ranges : List ℕ) → IsAssignment ranges []
assigned_none ranges = record { in_range = All-nil (IsInRange ranges); distinct = refl }

pub assigned_push : (ranges : List ℕ) (fs : List Fact) (f : Fact) → IsAssignment ranges fs → IsInRange ranges f → names_variable fs f.variable ≡ false → IsAssignment ranges (fs ++ f ∷ [])
assigned_push ranges fs f a i n = record { in_range = All-push (IsInRange ranges) fs f a.in_range i; distinct = distinct_push fs f a.distinct n }

-- ---- facts that are read

pub fact_in_range : (ranges : List ℕ) (v x : Number) (f : Fact) → fact_of ranges v x ≡ Some f → IsInRange ranges f
fact_in_range ranges (Natural v) (Natural x) f e =
    let p = some_if (is_in_range ranges v x) (record { variable = v; value = x }) f e in
    subst (IsInRange ranges) p.1 (ltb-true _ _ (and_left _ _ p.0), ltb-true _ _ (and_right _ _ p.0))
fact_in_range ranges (Natural v) (Negative x) f e = absurd cc
fact_in_range ranges (Negative v) x f e = absurd cc

pub fact_ranged : (ranges : List ℕ) (r q : Remaining) (f : Fact) → fact_at ranges r ≡ Ok (f, q) → IsInRange ranges f
unfolding fact_at
fact_ranged ranges r q f e =
    let l = bind_ok (line_at r) _ (f, q) e in
    let n = bind_ok (formed r.number (pair (words l.0.0))) _ (f, q) l.2 in
    let g = bind_ok (ranged r.number (fact_of ranges n.0.0 n.0.1)) _ (f, q) n.2 in
    let same : g.0 ≡ f = ap (λ (p : Fact × Remaining). p.0) (ok_is (g.0, l.0.1) (f, q) g.2) in
    subst (IsInRange ranges) same (fact_in_range ranges n.0.0 n.0.1 g.0 (ranged_ok r.number _ g.0 g.1))

fact_keeps : (ranges : List ℕ) (fs gs : List Fact) (r q : Remaining) → IsAssignment ranges fs → fact_step ranges fs r ≡ Ok (gs, q) → IsAssignment ranges gs
unfolding fact_step
fact_keeps ranges fs gs r q a e =
    let f = bind_ok (fact_at ranges r) _ (gs, q) e in
    let p = passed (names_variable fs f.0.0.variable) _ _ (gs, q) f.2 in
    let same : fs ++ f.0.0 ∷ [] ≡ gs = ap (λ (x : List Fact × Remaining). x.0) (ok_is (fs ++ f.0.0 ∷ [], f.0.1) (gs, q) p.1) in
    subst (IsAssignment ranges) same (assigned_push ranges fs f.0.0 a (fact_ranged ranges r f.0.1 f.0.0 f.1) p.0)

pub facts_assigned : (ranges : List ℕ) (r q : Remaining) (fs : List Fact) → facts_at ranges r ≡ Ok (fs, q) → IsAssignment ranges fs
unfolding facts_at
facts_assigned ranges r q fs e =
    let n = bind_ok (count_at r) _ (fs, q) e in
    repeated_keeps (IsAssignment ranges) (fact_step ranges) (fact_keeps ranges) n.0.0 [] fs n.0.1 q (assigned_none ranges) n.2

-- ---- effects that are read

-- an effect in range, and its value before
pub record IsChange (ranges : List ℕ) (c : Change) : Type 0 where
  pub after : IsInRange ranges c.after
  pub before : (x : ℕ) → c.before ≡ Some x → x < get_or ranges c.after.variable 0

before_ranged : (range : ℕ) (b : Number) (o : Option ℕ) (x : ℕ) → before_of range b ≡ Some o → o ≡ Some x → x < range
before_ranged range (Natural y) o x e s =
    let p = some_if (ltb y range) (Some y) o e in
    subst (λ (z : ℕ). z < range) (some_is y x (p.1 ∙ s)) (ltb-true y range p.0)
before_ranged range (Negative y) o x e s =
    let p = some_if (eqb y 1) None o e in
    let z : None ≡ Some x = p.1 ∙ s in
    absurd cc

change_with_is : (ranges : List ℕ) (b : Option (Option ℕ)) (f : Fact) (c : Change) → change_with b f ≡ Some c → (b ≡ Some c.before) × (f ≡ c.after)
change_with_is ranges None f c e = absurd cc
change_with_is ranges (Some b) f c e =
    let same = some_is (record { before = b; after = f }) c e in
    (ap (λ (z : Change). Some z.before) same, ap (λ (z : Change). z.after) same)

change_to_is : (ranges : List ℕ) (b : Number) (o : Option Fact) (c : Change) → ((f : Fact) → o ≡ Some f → IsInRange ranges f) → change_to ranges b o ≡ Some c → IsChange ranges c
change_to_is ranges b None c inside e = absurd cc
change_to_is ranges b (Some f) c inside e =
    let p = change_with_is ranges (before_of (get_or ranges f.variable 0) b) f c e in
    let here : before_of (get_or ranges c.after.variable 0) b ≡ Some c.before = ap (λ (z : Fact). before_of (get_or ranges z.variable 0) b) (sym p.1) ∙ p.0 in
    record {
      after = subst (IsInRange ranges) p.1 (inside f refl);
      before = λ x s. before_ranged (get_or ranges c.after.variable 0) b c.before x here s;
    }

change_if : (b : Bool) (o : Option Change) (c : Change) → cond b o None ≡ Some c → (b ≡ true) × (o ≡ Some c)
change_if true o c e = (refl, e)
change_if false o c e = absurd cc

pub change_ranged : (ranges : List ℕ) (n : Quadruple) (c : Change) → change_of ranges n ≡ Some c → IsChange ranges c
change_ranged ranges n c e =
    let p = change_if (is_natural 0 n.conditions) (change_to ranges n.before (fact_of ranges n.variable n.after)) c e in
    change_to_is ranges n.before (fact_of ranges n.variable n.after) c (λ f h. fact_in_range ranges n.variable n.after f h) p.1

pub change_read : (ranges : List ℕ) (r q : Remaining) (c : Change) → change_at ranges r ≡ Ok (c, q) → IsChange ranges c
unfolding change_at
change_read ranges r q c e =
    let l = bind_ok (line_at r) _ (c, q) e in
    let g = bind_ok (change_in r.number ranges (words l.0.0)) _ (c, q) l.2 in
    let same : g.0 ≡ c = ap (λ (p : Change × Remaining). p.0) (ok_is (g.0, l.0.1) (c, q) g.2) in
    let t = passed (is_conditional (words l.0.0)) _ (formed r.number (quadruple (words l.0.0)) >>= λ numbers. ranged r.number (change_of ranges numbers)) g.0 g.1 in
    let n = bind_ok (formed r.number (quadruple (words l.0.0))) _ g.0 t.1 in
    subst (IsChange ranges) same (change_ranged ranges n.0 g.0 (ranged_ok r.number (change_of ranges n.0) g.0 n.2))

-- both halves of an operator are assignments
pub record AreAssigned (ranges : List ℕ) (h : Halves) : Type 0 where
  pub precondition : IsAssignment ranges h.precondition
  pub effect : IsAssignment ranges h.effect

conditions_keep : (ranges : List ℕ) (fs : List Fact) (v : ℕ) (b : Option ℕ) → v < length ranges → ((x : ℕ) → b ≡ Some x → x < get_or ranges v 0) → names_variable fs v ≡ false → IsAssignment ranges fs → IsAssignment ranges (conditions_with fs v b)
conditions_keep ranges fs v None lt inside n a = a
conditions_keep ranges fs v (Some x) lt inside n a = assigned_push ranges fs (record { variable = v; value = x }) a (lt, inside x refl) n

change_keeps : (ranges : List ℕ) (h k : Halves) (r q : Remaining) → AreAssigned ranges h → change_step ranges h r ≡ Ok (k, q) → AreAssigned ranges k
unfolding change_step
change_keeps ranges h k r q a e =
    let c = bind_ok (change_at ranges r) _ (k, q) e in
    let p = passed (is_named h c.0.0.after.variable) _ _ (k, q) c.2 in
    let same : with_change h c.0.0 ≡ k = ap (λ (x : Halves × Remaining). x.0) (ok_is (with_change h c.0.0, c.0.1) (k, q) p.1) in
    let read = change_read ranges r c.0.1 c.0.0 c.1 in
    subst (AreAssigned ranges) same (record {
      precondition = conditions_keep ranges h.precondition c.0.0.after.variable c.0.0.before read.after.0 read.before (or_left_false _ _ p.0) a.precondition;
      effect = assigned_push ranges h.effect c.0.0.after a.effect read.after (or_right_false _ _ p.0);
    })

pub halves_assigned : (ranges : List ℕ) (r q : Remaining) (h : Halves) → halves_at ranges r ≡ Ok (h, q) → AreAssigned ranges h
unfolding halves_at
halves_assigned ranges r q h e =
    let p = bind_ok (facts_at ranges r) _ (h, q) e in
    let n = bind_ok (count_at p.0.1) _ (h, q) p.2 in
    repeated_keeps (AreAssigned ranges) (change_step ranges) (change_keeps ranges) n.0.0 (record { precondition = p.0.0; effect = [] }) h n.0.1 q
    (record { precondition = facts_assigned ranges r p.0.1 p.0.0 p.1; effect = assigned_none ranges }) n.2
