-- How a tree grows: nodes are appended after those to which visits go on from them.
use Rattle.std.proofs.Common.{◌≡◌, ℕ, zero, suc, ◌+◌, ◌<◌, ◌≤◌, true, false, cond, List, [], ◌∷◌, ◌++◌, length, take, get_or, set, replicate, Option, Some, refl, sym, ◌∙◌, ap, subst, arith, ⊎_elim, ◌⊎◌, inl, inr, Bool, ◌&&◌, length-append, length-set, get_or-set_same, get_or-set_other}
use Rattle.std.specs.Prelude.{slice_get, slice_index, nat_lt}
use Rattle.std.specs.Option.{option_map_or}
use Rattle.std.proofs.lemmas.List.{length_push, length-replicate, get_or_append_left, get_or-append-add, get_or-replicate, take_more}
use Rattle.std.proofs.lemmas.List.Folds.{list_all_at, list_all-append}
use Rattle.std.proofs.lemmas.Option.{slice_get_within, get_or_from_slice_get, same_Some}
use Rattle.std.proofs.lemmas.Bool.{cases_lt, cases_order, lt-ltb, le-ltb, eq-eqb, ne_eqb, eqb-true}
use Rattle.fdr.specs.declared.fact.Fact.{Fact}
use Rattle.fdr.specs.Tasks.{holds}
use Rattle.fdr_successors.specs.declared.candidate.Candidate.{Candidate}
use Rattle.fdr_successors.specs.declared.node.Node.{Node}
use Rattle.fdr_successors.specs.Listings.{all_hold, facts_at}
use Rattle.fdr_successors.specs.Trees.{Continues, SharesTests, IsNode, IsTree, Leads, Branches, AreKept, IsRun, tests_at, tests_of, start_of, child_for, following, end_after}

-- ---- nodes that stay

get_append_left : {X : Type 0} (xs ys : List X) (n : ℕ) → n < length xs → slice_get (xs ++ ys) n ≡ slice_get xs n
get_append_left [] ys n l = absurd (omega arith)
get_append_left (x ∷ xs) ys zero l = refl
get_append_left (x ∷ xs) ys (suc n) l = get_append_left xs ys n (omega arith)

get_push : {X : Type 0} (xs : List X) (x : X) → slice_get (xs ++ x ∷ []) (length xs) ≡ Some x
get_push [] x = refl
get_push (y ∷ xs) x = get_push xs x

pub kept_all : (nodes : List Node) → AreKept nodes nodes
kept_all nodes = record { long = omega arith; kept = λ n l. refl }

pub kept_then : (first second third : List Node) → AreKept first second → AreKept second third → AreKept first third
kept_then first second third a b =
    let m = a.long in
    let l = b.long in
    record { long = omega arith; kept = λ n below. b.kept n (omega arith) ∙ a.kept n below }

pub kept_push : (nodes : List Node) (w : Node) → AreKept nodes (nodes ++ w ∷ [])
kept_push nodes w = record { long = let e = length_push nodes w in omega arith; kept = get_append_left nodes (w ∷ []) }

pub continues_kept : (facts : List Fact) (cs : List Candidate) (old new : List Node) (state : List ℕ) (place n : ℕ) → AreKept old new → n < length old →
    Continues facts cs old state place n → Continues facts cs new state place n
continues_kept facts cs old new state place n kept l c =
    let start : start_of new n ≡ start_of old n = ap (λ (o : Option Node). option_map_or (λ w. w.first) o 0) (kept.kept n l) in
    let tests : tests_of facts cs new n ≡ tests_of facts cs old n =
    ap (λ (o : Option Node). option_map_or (λ w. tests_at facts cs w.tested w.first) o []) (kept.kept n l) in
    record {
      rising = let r = c.rising in omega arith;
      skipped = λ i low high. c.skipped i low (omega arith);
      meets = ap (λ (fs : List Fact). all_hold state fs) tests ∙ c.meets;
    }

pub leads_kept : (facts : List Fact) (cs : List Candidate) (old new : List Node) (tests : List Fact) (place n : ℕ) → AreKept old new →
    Leads facts cs old tests place n → Leads facts cs new tests place n
leads_kept facts cs old new tests place n kept leads =
    record {
      exists = let l = kept.long in let m = leads.exists in omega arith;
      continues = λ state h. continues_kept facts cs old new state place n kept leads.exists (leads.continues state h);
    }

-- ---- children

child_at : (children : List ℕ) (next value : ℕ) → value < length children → child_for children next value ≡ slice_index children value
child_at children next value l = ap (λ (b : _). cond b (slice_index children value) next) (lt-ltb value (length children) l)

child_past : (children : List ℕ) (next value : ℕ) → length children ≤ value → child_for children next value ≡ next
child_past children next value l = ap (λ (b : _). cond b (slice_index children value) next) (le-ltb value (length children) l)

child_exists : (facts : List Fact) (cs : List Candidate) (nodes : List Node) (tests : List Fact) (variable : ℕ) (children : List ℕ) (next place value : ℕ) →
    Branches facts cs nodes tests variable children next place → child_for children next value < length nodes
child_exists facts cs nodes tests variable children next place value b =
    ⊎_elim
    (λ (l : value < length children). rw (child_at children next value l) (b.children_exist value l))
    (λ (l : length children ≤ value). rw (child_past children next value l) b.exists)
    (cases_lt value (length children))

child_set_same : (children : List ℕ) (next k n : ℕ) → k < length children → child_for (set children k n) next k ≡ n
child_set_same children next k n l =
    child_at (set children k n) next k (rw (length-set children k n) l) ∙ get_or-set_same children k n 0 l

child_set_other : (children : List ℕ) (next k n value : ℕ) → (value ≡ k → ⊥) → child_for (set children k n) next value ≡ child_for children next value
child_set_other children next k n value differs =
    ap (λ (m : ℕ). cond (nat_lt value m) (get_or (set children k n) value 0) next) (length-set children k n)
    ∙ ap (λ (x : ℕ). cond (nat_lt value (length children)) x next) (get_or-set_other children k value n 0 differs)

child_same : (n next value : ℕ) → child_for (replicate n next) next value ≡ next
child_same n next value =
    ⊎_elim
    (λ (l : value < n). child_at (replicate n next) next value (rw (length-replicate n next) l) ∙ get_or-replicate n value next 0 l)
    (λ (l : n ≤ value). child_past (replicate n next) next value (rw (length-replicate n next) l))
    (cases_lt value n)

-- without children a visit goes on at the next node
pub branches_none : (facts : List Fact) (cs : List Candidate) (nodes : List Node) (tests : List Fact) (variable n next place : ℕ) →
    Leads facts cs nodes tests place next → Branches facts cs nodes tests variable (replicate n next) next place
branches_none facts cs nodes tests variable n next place leads =
    record {
      exists = leads.exists;
      children_exist = λ k l. let m = length-replicate n next in let e : slice_index (replicate n next) k ≡ next = get_or-replicate n k next 0 (omega arith) in rw e leads.exists;
      continues = λ state h.
          subst (λ (m : ℕ). Continues facts cs nodes state place m) (sym (child_same n next (slice_index state variable))) (leads.continues state h);
    }

-- ---- runs of candidates that test one fact next

-- one test more
more_tests : (fs : List Fact) (tested : ℕ) (f : Fact) → slice_get fs tested ≡ Some f → take (tested + 1) fs ≡ take tested fs ++ f ∷ []
more_tests fs tested f at =
    take_more fs tested f (slice_get_within fs tested f at) ∙ ap (λ (g : Fact). take tested fs ++ g ∷ []) (get_or_from_slice_get fs tested f f at)

pub run_shares : (facts : List Fact) (cs : List Candidate) (tested low high : ℕ) (f : Fact) (first place : ℕ) → SharesTests facts cs tested low high →
    IsRun facts cs tested f first place → low ≤ first → place ≤ high → SharesTests facts cs (tested + 1) first place
run_shares facts cs tested low high f first place s run above below =
    let rising = run.rising in
    let within = s.within in
    record {
      rising = rising;
      within = omega arith;
      long = λ i l m. let n = slice_get_within (facts_at facts cs i) tested f (run.tests i l m) in omega arith;
      shared = λ i l m.
          more_tests (facts_at facts cs i) tested f (run.tests i l m)
          ∙ ap (λ (fs : List Fact). fs ++ f ∷ []) (s.shared i (omega arith) (omega arith) ∙ sym (s.shared first above (omega arith)))
          ∙ sym (more_tests (facts_at facts cs first) tested f (run.tests first (omega arith) (omega arith)));
    }

both_true : (a b : Bool) → (a && b) ≡ true → (a ≡ true) × (b ≡ true)
both_true true true h = (refl, refl)
both_true true false h = absurd (cc h)
both_true false b h = absurd (cc h)

true_both : (a b : Bool) → a ≡ true → b ≡ true → (a && b) ≡ true
true_both a b h k = ap (λ (c : Bool). c && b) h ∙ k

-- one test more holds where the tests hold and the variable has the fact's value
met_before : (fs : List Fact) (tested : ℕ) (f : Fact) (state : List ℕ) → slice_get fs tested ≡ Some f → all_hold state (take (tested + 1) fs) ≡ true →
    (all_hold state (take tested fs) ≡ true) × (slice_index state f.variable ≡ f.value)
met_before fs tested f state at h =
    let parts = both_true (all_hold state (take tested fs)) (all_hold state (f ∷ []))
    (sym (list_all-append (holds state) (take tested fs) (f ∷ [])) ∙ ap (λ (gs : List Fact). all_hold state gs) (sym (more_tests fs tested f at)) ∙ h) in (
      parts.0,
      eqb-true (slice_index state f.variable) f.value (both_true (holds state f) true parts.1).0,
    )

met_after : (fs : List Fact) (tested : ℕ) (f : Fact) (state : List ℕ) → slice_get fs tested ≡ Some f → all_hold state (take tested fs) ≡ true →
    slice_index state f.variable ≡ f.value → all_hold state (take (tested + 1) fs) ≡ true
met_after fs tested f state at h has =
    ap (λ (gs : List Fact). all_hold state gs) (more_tests fs tested f at)
    ∙ list_all-append (holds state) (take tested fs) (f ∷ [])
    ∙ true_both (all_hold state (take tested fs)) (all_hold state (f ∷ [])) h
    (true_both (holds state f) true (eq-eqb (slice_index state f.variable) f.value has) refl)

-- where the variable has another value, a candidate that tests the fact does not apply
fails_elsewhere : (fs : List Fact) (tested : ℕ) (f : Fact) (state : List ℕ) → slice_get fs tested ≡ Some f → (slice_index state f.variable ≡ f.value → ⊥) →
    all_hold state fs ≡ false
fails_elsewhere fs tested f state at differs =
    list_all_at (holds state) fs tested f (slice_get_within fs tested f at)
    (ap (λ (g : Fact). holds state g) (get_or_from_slice_get fs tested f f at) ∙ ne_eqb (slice_index state f.variable) f.value differs)

-- where the tests of a run hold, a visit can go on behind it at the child that there was
pub child_leads : (facts : List Fact) (cs : List Candidate) (nodes : List Node) (tested low high variable k : ℕ) (children : List ℕ) (next first place : ℕ) →
    Branches facts cs nodes (tests_at facts cs tested low) variable children next place → k < length children → SharesTests facts cs tested low high →
    IsRun facts cs tested (record { variable = variable; value = k }) first place → low ≤ first → first < place → place ≤ high →
    Leads facts cs nodes (tests_at facts cs (tested + 1) first) place (slice_index children k)
child_leads facts cs nodes tested low high variable k children next first place b inside s run above some below =
    record {
      exists = b.children_exist k inside;
      continues = λ state h.
          let before = met_before (facts_at facts cs first) tested (record { variable = variable; value = k }) state (run.tests first (omega arith) some) h in
          let meets : all_hold state (tests_at facts cs tested low) ≡ true = ap (λ (fs : List Fact). all_hold state fs) (sym (s.shared first above (omega arith))) ∙ before.0 in
          subst (λ (m : ℕ). Continues facts cs nodes state place m)
          (ap (λ (x : ℕ). child_for children next x) before.1 ∙ child_at children next k inside) (b.continues state meets);
    }

-- a child for the value of a run, at which a visit begins at the run
pub branches_more : (facts : List Fact) (cs : List Candidate) (old new : List Node) (tested low high variable k : ℕ) (children : List ℕ) (next first place child : ℕ) →
    Branches facts cs old (tests_at facts cs tested low) variable children next place → k < length children → SharesTests facts cs tested low high →
    IsRun facts cs tested (record { variable = variable; value = k }) first place → low ≤ first → first < place → place ≤ high → AreKept old new →
    Leads facts cs new (tests_at facts cs (tested + 1) first) first child →
    Branches facts cs new (tests_at facts cs tested low) variable (set children k child) next first
branches_more facts cs old new tested low high variable k children next first place child b inside s run above some below kept leads =
    let long = kept.long in
    let exists = b.exists in
    record {
      exists = omega arith;
      children_exist = λ j l.
          let m : j < length children = rw (sym (length-set children k child)) l in
          let there = b.children_exist j m in
          ⊎_elim
          (λ (e : j ≡ k). rw e (let same : slice_index (set children k child) k ≡ child = get_or-set_same children k child 0 inside in rw same leads.exists))
          (λ (d : j ≡ k → ⊥). let same : slice_index (set children k child) j ≡ slice_index children j = get_or-set_other children k j child 0 d in rw same (omega arith))
          (same_or_not j k);
      continues = λ state h.
          let x = slice_index state variable in
          ⊎_elim
          (λ (e : x ≡ k).
          let meets : all_hold state (tests_at facts cs tested first) ≡ true = ap (λ (fs : List Fact). all_hold state fs) (s.shared first above (omega arith)) ∙ h in
          subst (λ (m : ℕ). Continues facts cs new state first m)
          (sym (ap (λ (y : ℕ). child_for (set children k child) next y) e ∙ child_set_same children next k child inside))
          (leads.continues state (met_after (facts_at facts cs first) tested (record { variable = variable; value = k }) state (run.tests first (omega arith) some) meets e)))
          (λ (d : x ≡ k → ⊥).
          subst (λ (m : ℕ). Continues facts cs new state first m) (sym (child_set_other children next k child x d))
          (let c = continues_kept facts cs old new state place (child_for children next x) kept (child_exists facts cs old (tests_at facts cs tested low) variable children next place x b) (b.continues state h) in
          let rising = c.rising in
          record {
            rising = omega arith;
            skipped = λ i l m.
                ⊎_elim
                (λ (before : i < place). fails_elsewhere (facts_at facts cs i) tested (record { variable = variable; value = k }) state (run.tests i l before) d)
                (λ (behind : place ≤ i). c.skipped i behind m)
                (cases_lt i place);
            meets = c.meets;
          }))
          (same_or_not x k);
    }
  where
    same_or_not : (m n : ℕ) → (m ≡ n) ⊎ (m ≡ n → ⊥)
    same_or_not m n = elim (cases_order m n) [ inl e ↦ inl e | inr o ↦ inr (λ e. elim o [ inl l ↦ omega arith | inr l ↦ omega arith ]) ]

-- the same candidates with as many tests, from another place on
pub branches_from : (facts : List Fact) (cs : List Candidate) (nodes : List Node) (tests other : List Fact) (variable : ℕ) (children : List ℕ) (next place : ℕ) → tests ≡ other →
    Branches facts cs nodes tests variable children next place → Branches facts cs nodes other variable children next place
branches_from facts cs nodes tests other variable children next place e b =
    subst (λ (fs : List Fact). Branches facts cs nodes fs variable children next place) e b

pub branches_kept : (facts : List Fact) (cs : List Candidate) (old new : List Node) (tests : List Fact) (variable : ℕ) (children : List ℕ) (next place : ℕ) → AreKept old new →
    Branches facts cs old tests variable children next place → Branches facts cs new tests variable children next place
branches_kept facts cs old new tests variable children next place kept b =
    let long = kept.long in
    record {
      exists = let l = b.exists in omega arith;
      children_exist = λ k l. let m = b.children_exist k l in omega arith;
      continues = λ state h.
          continues_kept facts cs old new state place (child_for children next (slice_index state variable)) kept
          (child_exists facts cs old tests variable children next place (slice_index state variable) b) (b.continues state h);
    }

-- fewer candidates share as many tests
pub shares_part : (facts : List Fact) (cs : List Candidate) (tested low high first end : ℕ) → SharesTests facts cs tested low high → low ≤ first → first ≤ end → end ≤ high →
    first < high → SharesTests facts cs tested first end
shares_part facts cs tested low high first end s above rising below some =
    let within = s.within in
    record {
      rising = rising;
      within = omega arith;
      long = λ i l m. s.long i (omega arith) (omega arith);
      shared = λ i l m. s.shared i (omega arith) (omega arith) ∙ sym (s.shared first above some);
    }

-- ---- one more node

pub following_below : (n : ℕ) (children : List ℕ) (w : Node) (state : List ℕ) → w.next < n → ((k : ℕ) → k < w.range → slice_index children (w.table + k) < n) → following children state w < n
following_below n children w state later later_children =
    ⊎_elim
    (λ (l : slice_index state w.variable < w.range).
    let e = ap (λ (b : Bool). cond b (slice_index children (w.table + slice_index state w.variable)) w.next) (lt-ltb (slice_index state w.variable) w.range l) in
    rw e (later_children (slice_index state w.variable) l))
    (λ (l : w.range ≤ slice_index state w.variable).
    let e = ap (λ (b : Bool). cond b (slice_index children (w.table + slice_index state w.variable)) w.next) (le-ltb (slice_index state w.variable) w.range l) in
    rw e later)
    (cases_lt (slice_index state w.variable) w.range)

following_longer : (children more : List ℕ) (w : Node) (state : List ℕ) → w.table + w.range ≤ length children → following (children ++ more) state w ≡ following children state w
following_longer children more w state table =
    let x = slice_index state w.variable in
    ⊎_elim
    (λ (l : x < w.range).
    ap (λ (b : Bool). cond b (slice_index (children ++ more) (w.table + x)) w.next) (lt-ltb x w.range l)
    ∙ get_or_append_left children more 0 (w.table + x) (omega arith)
    ∙ sym (ap (λ (b : Bool). cond b (slice_index children (w.table + x)) w.next) (lt-ltb x w.range l)))
    (λ (l : w.range ≤ x).
    ap (λ (b : Bool). cond b (slice_index (children ++ more) (w.table + x)) w.next) (le-ltb x w.range l)
    ∙ sym (ap (λ (b : Bool). cond b (slice_index children (w.table + x)) w.next) (le-ltb x w.range l)))
    (cases_lt x w.range)

following_new : (children more : List ℕ) (w : Node) (state : List ℕ) → w.table ≡ length children → w.range ≡ length more →
    following (children ++ more) state w ≡ child_for more w.next (slice_index state w.variable)
following_new children more w state table range =
    let x = slice_index state w.variable in
    ap (λ (m : ℕ). cond (nat_lt x m) (get_or (children ++ more) (w.table + x) 0) w.next) range
    ∙ ap (λ (m : ℕ). cond (nat_lt x (length more)) (get_or (children ++ more) (m + x) 0) w.next) table
    ∙ ap (λ (m : ℕ). cond (nat_lt x (length more)) m w.next) (get_or-append-add children more x 0)

old_node : (variables : ℕ) (facts : List Fact) (cs : List Candidate) (nodes : List Node) (children : List ℕ) (v : Node) (more : List ℕ) (n : ℕ) (w : Node) → n < length nodes →
    IsNode variables facts cs nodes children n w → IsNode variables facts cs (nodes ++ v ∷ []) (children ++ more) n w
old_node variables facts cs nodes children v more n w below is =
    let table = is.table in
    record {
      shares = is.shares;
      variable = is.variable;
      table = let e = length-append children more in omega arith;
      later = is.later;
      later_children = λ k l.
          let e : slice_index (children ++ more) (w.table + k) ≡ slice_index children (w.table + k) = get_or_append_left children more 0 (w.table + k) (omega arith) in rw e (is.later_children k l);
      continues = λ state h.
          let l = following_below n children w state is.later is.later_children in
          subst (λ (m : ℕ). Continues facts cs (nodes ++ v ∷ []) state w.end m) (sym (following_longer children more w state table))
          (continues_kept facts cs nodes (nodes ++ v ∷ []) state w.end (following children state w) (kept_push nodes v) (omega arith) (is.continues state h));
    }

new_node : (variables : ℕ) (facts : List Fact) (cs : List Candidate) (nodes : List Node) (children : List ℕ) (w : Node) (more : List ℕ) → w.table ≡ length children → w.range ≡ length more →
    SharesTests facts cs w.tested w.first w.end → (0 < w.range → w.variable < variables) →
    Branches facts cs nodes (tests_at facts cs w.tested w.first) w.variable more w.next w.end →
    IsNode variables facts cs (nodes ++ w ∷ []) (children ++ more) (length nodes) w
new_node variables facts cs nodes children w more table range shares variable b =
    record {
      shares = shares;
      variable = variable;
      table = let e = length-append children more in omega arith;
      later = b.exists;
      later_children = λ k l.
          let e : slice_index (children ++ more) (w.table + k) ≡ slice_index more k =
          ap (λ (m : ℕ). get_or (children ++ more) (m + k) 0) table ∙ get_or-append-add children more k 0 in
          rw e (b.children_exist k (omega arith));
      continues = λ state h.
          subst (λ (m : ℕ). Continues facts cs (nodes ++ w ∷ []) state w.end m) (sym (following_new children more w state table range))
          (continues_kept facts cs nodes (nodes ++ w ∷ []) state w.end (child_for more w.next (slice_index state w.variable)) (kept_push nodes w)
          (child_exists facts cs nodes (tests_at facts cs w.tested w.first) w.variable more w.next w.end (slice_index state w.variable) b) (b.continues state h));
    }

pub tree_more : (variables : ℕ) (facts : List Fact) (cs : List Candidate) (nodes : List Node) (children : List ℕ) (w : Node) (more : List ℕ) → IsTree variables facts cs nodes children →
    w.table ≡ length children → w.range ≡ length more → SharesTests facts cs w.tested w.first w.end → (0 < w.range → w.variable < variables) →
    Branches facts cs nodes (tests_at facts cs w.tested w.first) w.variable more w.next w.end →
    IsTree variables facts cs (nodes ++ w ∷ []) (children ++ more)
tree_more variables facts cs nodes children w more tree table range shares variable b =
    let some : 0 < length nodes = slice_get_within nodes 0 (end_after (length cs)) tree.end in
    record {
      end = get_append_left nodes (w ∷ []) 0 some ∙ tree.end;
      each = λ n v positive at.
          ⊎_elim
          (λ (below : n < length nodes).
          old_node variables facts cs nodes children w more n v below (tree.each n v positive (sym (get_append_left nodes (w ∷ []) n below) ∙ at)))
          (λ (above : length nodes ≤ n).
          let l = slice_get_within (nodes ++ w ∷ []) n v at in
          let e = length_push nodes w in
          let here : length nodes ≡ n = omega arith in
          let is : w ≡ v = same_Some w v (sym (get_push nodes w) ∙ ap (λ (m : ℕ). slice_get (nodes ++ w ∷ []) m) here ∙ at) in
          subst (λ (m : ℕ). IsNode variables facts cs (nodes ++ w ∷ []) (children ++ more) m v) here
          (subst (λ (u : Node). IsNode variables facts cs (nodes ++ w ∷ []) (children ++ more) (length nodes) u) is
          (new_node variables facts cs nodes children w more table range shares variable b)))
          (cases_lt n (length nodes));
    }

-- a visit can begin at a node whose tests hold
pub leads_here : (facts : List Fact) (cs : List Candidate) (nodes : List Node) (w : Node) (tests : List Fact) → tests_at facts cs w.tested w.first ≡ tests →
    Leads facts cs (nodes ++ w ∷ []) tests w.first (length nodes)
leads_here facts cs nodes w tests same =
    let start : start_of (nodes ++ w ∷ []) (length nodes) ≡ w.first = ap (λ (o : Option Node). option_map_or (λ v. v.first) o 0) (get_push nodes w) in
    record {
      exists = let e = length_push nodes w in omega arith;
      continues = λ state h. record {
        rising = omega arith;
        skipped = λ i l m. absurd (omega arith);
        meets =
            ap (λ (o : Option Node). all_hold state (option_map_or (λ v. tests_at facts cs v.tested v.first) o [])) (get_push nodes w)
            ∙ ap (λ (fs : List Fact). all_hold state fs) same ∙ h;
      };
    }

-- ---- the first node

pub tree_none : (variables : ℕ) (facts : List Fact) (cs : List Candidate) → IsTree variables facts cs (end_after (length cs) ∷ []) []
tree_none variables facts cs = record { end = refl; each = λ n w positive at. absurd (let l = slice_get_within (end_after (length cs) ∷ []) n w at in omega arith) }

pub leads_to_end : (facts : List Fact) (cs : List Candidate) (tests : List Fact) → Leads facts cs (end_after (length cs) ∷ []) tests (length cs) 0
leads_to_end facts cs tests =
    record {
      exists = omega arith;
      continues = λ state h. record { rising = omega arith; skipped = λ i l m. absurd (omega arith); meets = refl };
    }

pub shares_all : (facts : List Fact) (cs : List Candidate) → SharesTests facts cs 0 0 (length cs)
shares_all facts cs = record { rising = omega arith; within = omega arith; long = λ i l m. omega arith; shared = λ i l m. refl }
