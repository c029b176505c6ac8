-- A domain abstraction preserves steps and goals.
use Rattle.std.proofs.Common.{◌≡◌, ℕ, zero, suc, ◌<◌, Bool, true, false, List, [], ◌∷◌, length, map, replicate, Option, Some, None, refl, ap, sym, subst, ◌∙◌, arith, cond, eqb, get_or}
use Rattle.std.specs.Prelude.{option_and_then, option_map, IfSome, slice_get, slice_index, slice_set, All}
use Rattle.std.specs.List.{list_all, list_any}
use Rattle.std.specs.Option.{option_map_or}
use Rattle.std.proofs.lemmas.List.{length-set, length-replicate, get_or-set_same, get_or-set_other, ext_get_or}
use Rattle.std.proofs.lemmas.List.Elements.{All-head, All-tail, All-map}
use Rattle.std.proofs.lemmas.Option.{slice_get-map, slice_get_past}
use Rattle.std.proofs.lemmas.Bool.{cond_both, eqb-true, eqb-false, eq-eqb, and_parts, and_from}
use Rattle.fdr.specs.declared.fact.Fact.{Fact}
use Rattle.fdr.specs.Tasks.{FiniteDomainTask, Operator, ranges, IsTask, IsState, IsOperator, IsAssignment, IsInRange, holds, applies, successor, with_values, step, names_variable, are_distinct}
use Rattle.abstraction.specs.Abstractions.{Abstraction, IsAbstractionOf}
use Rattle.abstraction.specs.Projections.{size_of, index_of, agrees, transition_of, touches_pattern, AllExist}
use Rattle.abstraction.specs.ProjectionLaws.{projection_abstracts}
use Rattle.abstraction.specs.Steps.{found, at_some}
use Rattle.abstraction_domain.specs.Rows.{Row, class_count}
use Rattle.abstraction_domain.specs.Domains.{variables, class_of, class_counts, class_state, class_fact, class_facts, class_operator, domain, IsFit}

-- the value at an index after a write
read_set : (s : List ℕ) (p x v : ℕ) → p < length s → slice_index (slice_set s p x) v ≡ cond (eqb p v) x (slice_index s v)
read_set s p x v l =
    cond_both (eqb p v) x (slice_index s v) (λ y. slice_index (slice_set s p x) v ≡ y)
    (λ e. let same : p ≡ v = eqb-true p v e in rw (← same, get_or-set_same))
    (λ e. let other : v ≡ p → ⊥ = λ q. eqb-false p v e (sym q) in rw get_or-set_other)

-- a class of a list is below the number of its classes
pub class_below_count : (cs : List ℕ) (x : ℕ) → x < length cs → slice_index cs x < class_count cs
class_below_count [] x l = absurd (omega arith)
class_below_count (c ∷ cs) zero l = omega arith
class_below_count (c ∷ cs) (suc x) l = omega (arith, class_below_count cs x (omega arith))

-- the number of classes of a variable, and n if it has no row
abbrev pub count_of : List Row → ℕ → ℕ → ℕ
count_of [] v n = n
count_of (r ∷ rs) v n = cond (eqb r.variable v) (class_count r.classes) (count_of rs v n)

module _ (rows : List Row) where
  names_same : (fs : List Fact) (v : ℕ) → names_variable (class_facts rows fs) v ≡ names_variable fs v
  names_same [] v = refl
  names_same (f ∷ fs) v = rw (names_same fs v) refl

  distinct_same : (fs : List Fact) → are_distinct (class_facts rows fs) ≡ are_distinct fs
  distinct_same [] = refl
  distinct_same (f ∷ fs) = rw (names_same fs f.variable, distinct_same fs) refl

module _ (ranges : List ℕ) where
  pub length-class_counts : (rows : List Row) → length (class_counts rows ranges) ≡ length ranges
  length-class_counts [] = refl
  length-class_counts (r ∷ rs) = rw length-set (length-class_counts rs)

  pub read_counts : (rows : List Row) (v : ℕ) → All (IsFit ranges) rows → slice_index (class_counts rows ranges) v ≡ count_of rows v (slice_index ranges v)
  read_counts [] v fit = refl
  read_counts (r ∷ rs) v fit =
      let here = All-head (IsFit ranges) r rs fit in
      let within : r.variable < length (class_counts rs ranges) = rw (length-class_counts rs) here.exists in
      rw (read_set (class_counts rs ranges) r.variable (class_count r.classes) v within, read_counts rs v (All-tail (IsFit ranges) r rs fit)) refl

  -- the class of a value is below the number of classes
  class_below : (rows : List Row) (v x : ℕ) → All (IsFit ranges) rows → x < slice_index ranges v → class_of rows v x < count_of rows v (slice_index ranges v)
  class_below [] v x fit l = l
  class_below (r ∷ rs) v x fit l = go (eqb r.variable v) refl (class_below rs v x (All-tail (IsFit ranges) r rs fit) l)
    where
      here : IsFit ranges r
      here = All-head (IsFit ranges) r rs fit

      go : (b : Bool) → eqb r.variable v ≡ b → class_of rs v x < count_of rs v (slice_index ranges v) →
          cond b (slice_index r.classes x) (class_of rs v x) < cond b (class_count r.classes) (count_of rs v (slice_index ranges v))
      go true e rest =
          let same : r.variable ≡ v = eqb-true r.variable v e in
          let long : length r.classes ≡ slice_index ranges v = rw (← same) here.as_long in
          class_below_count r.classes x (omega arith)
      go false e rest = rest

  pub class_within : (rows : List Row) (v x : ℕ) → All (IsFit ranges) rows → x < slice_index ranges v → class_of rows v x < slice_index (class_counts rows ranges) v
  class_within rows v x fit l = rw (read_counts rows v fit) (class_below rows v x fit l)

  length-class_state : (rows : List Row) (s : List ℕ) → length (class_state rows s) ≡ length s
  length-class_state [] s = refl
  length-class_state (r ∷ rs) s = rw length-set (length-class_state rs s)

  -- the class at a variable of a state
  pub read_state : (rows : List Row) (s : List ℕ) (v : ℕ) → length s ≡ length ranges → All (IsFit ranges) rows → slice_index (class_state rows s) v ≡ class_of rows v (slice_index s v)
  read_state [] s v long fit = refl
  read_state (r ∷ rs) s v long fit =
      let here = All-head (IsFit ranges) r rs fit in
      let within : r.variable < length (class_state rs s) = rw (length-class_state rs s, long) here.exists in
      rw (read_set (class_state rs s) r.variable (slice_index r.classes (slice_index s r.variable)) v within, read_state rs s v long (All-tail (IsFit ranges) r rs fit))
      (go (eqb r.variable v) refl)
    where
      go : (b : Bool) → eqb r.variable v ≡ b →
          cond b (slice_index r.classes (slice_index s r.variable)) (class_of rs v (slice_index s v)) ≡ cond b (slice_index r.classes (slice_index s v)) (class_of rs v (slice_index s v))
      go true e = let same : r.variable ≡ v = eqb-true r.variable v e in rw same refl
      go false e = refl

  module _ (rows : List Row) (fit : All (IsFit ranges) rows) where
    -- classes make a state of the numbers of classes
    pub class_is_state : (s : List ℕ) → IsState ranges s → IsState (class_counts rows ranges) (class_state rows s)
    class_is_state s state =
        record {
          as_long = rw (length-class_state rows s, length-class_counts rows) state.as_long;
          in_range = λ v l.
              let exists : v < length ranges = rw (length-class_counts rows) at l in
              rw (read_state rows s v state.as_long fit) (class_within rows v (slice_index s v) fit (state.in_range v exists));
        }

    -- a value in range has its class in range
    pub class_in_range : (f : Fact) → IsInRange ranges f → IsInRange (class_counts rows ranges) (class_fact rows f)
    class_in_range f h = (rw (length-class_counts rows) h.0, class_within rows f.variable f.value fit h.1)

    classes_in_range : (fs : List Fact) → All (IsInRange ranges) fs → All (IsInRange (class_counts rows ranges)) (class_facts rows fs)
    classes_in_range fs all = All-map (IsInRange (class_counts rows ranges)) (class_fact rows) fs (λ k d l. class_in_range (get_or fs k d) (all k d l))

    pub class_assignment : (fs : List Fact) → IsAssignment ranges fs → IsAssignment (class_counts rows ranges) (class_facts rows fs)
    class_assignment fs ok = record { in_range = classes_in_range fs ok.in_range; distinct = rw (distinct_same rows fs) ok.distinct }

    class_is_operator : (op : Operator) → IsOperator ranges op → IsOperator (class_counts rows ranges) (class_operator rows op)
    class_is_operator op ok =
        record { precondition = class_assignment op.precondition ok.precondition; effect = class_assignment op.effect ok.effect }

    -- facts that hold for values hold for their classes
    classes_hold : (s : List ℕ) → length s ≡ length ranges → (fs : List Fact) → list_all (holds s) fs ≡ true → list_all (holds (class_state rows s)) (class_facts rows fs) ≡ true
    classes_hold s long [] h = refl
    classes_hold s long (f ∷ fs) h =
        let parts = and_parts (holds s f) (list_all (holds s) fs) h in
        let same : slice_index s f.variable ≡ f.value = eqb-true (slice_index s f.variable) f.value parts.0 in
        let held : holds (class_state rows s) (class_fact rows f) ≡ true = rw (read_state rows s f.variable long fit, same) (eq-eqb (class_of rows f.variable f.value) (class_of rows f.variable f.value) refl) in
        and_from _ _ held (classes_hold s long fs parts.1)

    class_set : (s : List ℕ) (v x : ℕ) → length s ≡ length ranges → v < length s → class_state rows (slice_set s v x) ≡ slice_set (class_state rows s) v (class_of rows v x)
    class_set s v x long l =
        let longer : length (slice_set s v x) ≡ length ranges = rw length-set long in
        let within : v < length (class_state rows s) = rw (length-class_state rows s) l in
        ext_get_or 0 (class_state rows (slice_set s v x)) (slice_set (class_state rows s) v (class_of rows v x))
        (rw (length-class_state rows (slice_set s v x), length-set, length-set, length-class_state rows s) refl)
        (λ w k.
        rw (read_state rows (slice_set s v x) w longer fit, read_set s v x w l, read_set (class_state rows s) v (class_of rows v x) w within, read_state rows s w long fit)
        (go w (eqb v w) refl))
      where
        go : (w : ℕ) (b : Bool) → eqb v w ≡ b → class_of rows w (cond b x (slice_index s w)) ≡ cond b (class_of rows v x) (class_of rows w (slice_index s w))
        go w true e = rw (eqb-true v w e) refl
        go w false e = refl

    class_after : (effect : List Fact) (s : List ℕ) → length s ≡ length ranges → All (IsInRange ranges) effect → class_state rows (with_values effect s) ≡ with_values (class_facts rows effect) (class_state rows s)
    class_after [] s long all = refl
    class_after (f ∷ fs) s long all =
        let longer : length (slice_set s f.variable f.value) ≡ length ranges = rw length-set long in
        let here : f.variable < length s = rw long (All-head (IsInRange ranges) f fs all).0 in
        class_after fs (slice_set s f.variable f.value) longer (All-tail (IsInRange ranges) f fs all)
        ∙ ap (with_values (class_facts rows fs)) (class_set s f.variable f.value long here)

-- names of values of which only the number matters
abbrev blank : ℕ → List (List ℕ)
blank n = replicate n []

lengths_of : (ns : List ℕ) → map length (map blank ns) ≡ ns
lengths_of [] = refl
lengths_of (n ∷ ns) = rw (length-replicate, lengths_of ns) refl

-- the task with classes for values
abbrev class_task : FiniteDomainTask → List Row → FiniteDomainTask
class_task task rows =
    record {
      metric = task.metric;
      value_names = map blank (class_counts rows (ranges task));
      initial = class_state rows task.initial;
      goal = class_facts rows task.goal;
      operators = map (class_operator rows) task.operators;
    }

-- the projection to a pattern, by ranges, operators and a goal
abbrev over : List ℕ → List ℕ → List Operator → List Fact → Abstraction
over rs ps ops goal =
    record {
      size = size_of rs ps;
      index = index_of rs ps;
      transition = λ i o. option_and_then (transition_of rs ps i) (slice_get ops o);
      touches = λ o. option_map_or (touches_pattern ps) (slice_get ops o) false;
      is_goal = λ i. list_all (agrees rs ps i) goal;
    }

module _ (task : FiniteDomainTask) (rows : List Row) where
  -- the abstraction of the task with classes
  abbrev classes_over : List ℕ → Abstraction
  classes_over rs = over rs (variables rows) (map (class_operator rows) task.operators) (class_facts rows task.goal)

  moves_same : (i o : ℕ) → (domain task rows).transition i o ≡ (classes_over (class_counts rows (ranges task))).transition i o
  moves_same i o = rw (slice_get-map (class_operator rows) task.operators o) (go (slice_get task.operators o))
    where
      go : (r : Option Operator) → option_and_then (λ op. transition_of (class_counts rows (ranges task)) (variables rows) i (class_operator rows op)) r
          ≡ option_and_then (transition_of (class_counts rows (ranges task)) (variables rows) i) (option_map (class_operator rows) r)
      go None = refl
      go (Some op) = refl

  touches_same : (o : ℕ) → (classes_over (class_counts rows (ranges task))).touches o ≡ (domain task rows).touches o
  touches_same o = rw (slice_get-map (class_operator rows) task.operators o) (go (slice_get task.operators o))
    where
      named : (effect : List Fact) (ps : List ℕ) → list_any (names_variable (class_facts rows effect)) ps ≡ list_any (names_variable effect) ps
      named effect [] = refl
      named effect (p ∷ ps) = rw (names_same rows effect p, named effect ps) refl

      go : (r : Option Operator) → option_map_or (touches_pattern (variables rows)) (option_map (class_operator rows) r) false ≡ option_map_or (touches_pattern (variables rows)) r false
      go None = refl
      go (Some op) = named op.effect (variables rows)

  module _ (well : IsTask task) (fit : All (IsFit (ranges task)) rows) where
    from_counts : (P : List ℕ → Type 0) → P (class_counts rows (ranges task)) → P (ranges (class_task task rows))
    from_counts P h = subst P (sym (lengths_of (class_counts rows (ranges task)))) h

    class_is_task : IsTask (class_task task rows)
    class_is_task =
        record {
          initial = from_counts (λ rs. IsState rs (class_state rows task.initial)) (class_is_state (ranges task) rows fit task.initial well.initial);
          goal = from_counts (λ rs. IsAssignment rs (class_facts rows task.goal)) (class_assignment (ranges task) rows fit task.goal well.goal);
          operators = from_counts (λ rs. All (IsOperator rs) (map (class_operator rows) task.operators))
              (All-map (IsOperator (class_counts rows (ranges task))) (class_operator rows) task.operators
              (λ k d l. class_is_operator (ranges task) rows fit (get_or task.operators k d) (well.operators k d l)));
        }

    pub variables_exist : AllExist (class_counts rows (ranges task)) (variables rows)
    variables_exist =
        All-map (λ v. v < length (class_counts rows (ranges task))) (λ (r : Row). r.variable) rows
        (λ k d l. rw (length-class_counts (ranges task) rows) (fit k d l).exists)

    classes_abstract : IsAbstractionOf (class_task task rows) (classes_over (class_counts rows (ranges task)))
    classes_abstract =
        subst (λ rs. IsAbstractionOf (class_task task rows) (classes_over rs)) (lengths_of (class_counts rows (ranges task)))
        (projection_abstracts (class_task task rows) class_is_task (variables rows) (from_counts (λ rs. AllExist rs (variables rows)) variables_exist))

    class_step : (s : List ℕ) → IsState (ranges task) s → (r : Option Operator) → IfSome r (IsOperator (ranges task))
        → IfSome (option_and_then (λ op. cond (applies op s) (Some (successor op s)) None) r)
        (λ t. option_and_then (λ op. cond (applies op (class_state rows s)) (Some (successor op (class_state rows s))) None) (option_map (class_operator rows) r) ≡ Some (class_state rows t))
    class_step s state None h = tt
    class_step s state (Some op) h =
        cond_both (applies op s) (Some (successor op s)) None
        (λ u. IfSome u (λ t. cond (applies (class_operator rows op) (class_state rows s)) (Some (successor (class_operator rows op) (class_state rows s))) None ≡ Some (class_state rows t)))
        (λ e. rw (classes_hold (ranges task) rows fit s state.as_long op.precondition e) (ap Some (sym (class_after (ranges task) rows fit op.effect s state.as_long h.effect.in_range))))
        (λ e. tt)

    class_step_at : (s : List ℕ) (o : ℕ) → IsState (ranges task) s → IfSome (step task s o) (λ t. step (class_task task rows) (class_state rows s) o ≡ Some (class_state rows t))
    class_step_at s o state =
        rw (slice_get-map (class_operator rows) task.operators o)
        (class_step s state (slice_get task.operators o) (found (IsOperator (ranges task)) task.operators o well.operators))

    class_state_is : (s : List ℕ) → IsState (ranges task) s → IsState (ranges (class_task task rows)) (class_state rows s)
    class_state_is s state = from_counts (λ rs. IsState rs (class_state rows s)) (class_is_state (ranges task) rows fit s state)

    steps_kept : (s : List ℕ) (o : ℕ) → IsState (ranges task) s → (r : Option (List ℕ)) → IfSome r (λ t. step (class_task task rows) (class_state rows s) o ≡ Some (class_state rows t))
        → IfSome r (λ t. (domain task rows).transition ((domain task rows).index s) o ≡ Some ((domain task rows).index t))
    steps_kept s o state None h = tt
    steps_kept s o state (Some t) h =
        moves_same ((domain task rows).index s) o
        ∙ at_some (λ u. (classes_over (class_counts rows (ranges task))).transition ((domain task rows).index s) o ≡ Some (index_of (class_counts rows (ranges task)) (variables rows) u))
        (step (class_task task rows) (class_state rows s) o) (class_state rows t) h (classes_abstract.steps (class_state rows s) o (class_state_is s state))

    -- a domain abstraction by rows that fit is an abstraction of the task
    pub domain_abstracts : IsAbstractionOf task (domain task rows)
    domain_abstracts =
        record {
          indices = λ s state. classes_abstract.indices (class_state rows s) (class_state_is s state);
          transitions = λ i o l. rw (moves_same i o) (classes_abstract.transitions i o l);
          steps = λ s o state. steps_kept s o state (step task s o) (class_step_at s o state);
          goals = λ s state goal. classes_abstract.goals (class_state rows s) (class_state_is s state) (classes_hold (ranges task) rows fit s state.as_long task.goal goal);
          operators = λ i o l. rw (slice_get_past task.operators o l) refl;
          untouched = λ i o l e. rw (moves_same i o) (classes_abstract.untouched i o l (touches_same o ∙ e));
        }
