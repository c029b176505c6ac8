-- A certificate for some operators is one for more operators, of which each is equal to one of the former that costs at
-- most as much, or leaves states.
use Rattle.std.proofs.Common.{◌≡◌, ℕ, ◌+◌, ◌<◌, ◌≤◌, Bool, true, false, List, [], ◌∷◌, length, map, Option, Some, None, refl, sym, ap, subst, ◌∙◌, arith, cond, ltb, leb, ⊎_elim}
use Rattle.std.specs.Prelude.{◌⊎◌, ◌&&◌, ◌||◌, not, All, Contains, IfSome, IsSomeAnd, nat_eq, nat_le, nat_lt, option_map, option_and_then, slice_get, slice_index, slice_index_or, sum_by}
use Rattle.std.specs.List.{list_all}
use Rattle.std.specs.Option.{option_map_or}
use Rattle.std.specs.Cmp.Lexicographic.{pointwise}
use Rattle.std.proofs.lemmas.Bool.{eq-eqb, leb-true, le-leb, lt-ltb, and_parts, and_from, or_left, or_right, or_from, or_cases, not_from_false, false≢true}
use Rattle.std.proofs.lemmas.Option.{none-some, slice_get-map, slice_get_past, slice_get_within, get_or_from_slice_get}
use Rattle.std.proofs.lemmas.List.{length-map, get_or_past}
use Rattle.std.proofs.lemmas.List.Elements.{All-contains, All-weaker}
use Rattle.std.proofs.lemmas.List.Sums.{sum_by-cons}
use Rattle.cost.specs.Distances.{Distance, Finite, Infinite, is_at_most, ◌+ᵈ◌, larger}
use Rattle.fdr.specs.declared.fact.Fact.{Fact}
use Rattle.fdr.specs.Tasks.{FiniteDomainTask, Operator, ranges, IsState, IsOperator, IsInRange, holds, applies, successor, step, cost_of}
use Rattle.abstraction.specs.Columns.{column_value}
use Rattle.abstraction.specs.Projections.{size_of, index_of, agrees, transition_of}
use Rattle.abstraction.specs.Steps.{found, at_some}
use Rattle.abstraction.proofs.DigitLaws.{rising_from}
use Rattle.abstraction_domain.specs.Domains.{variables, class_counts, class_state, class_facts, class_operator}
use Rattle.abstraction_mapping.specs.Mappings.{Mapping, Pattern, Domains, abstraction_by, is_fit, is_of_task, is_mapping}
use Rattle.abstraction_mapping.specs.TestedMappings as tested
use Rattle.cert_value.specs.declared.table.Share.{Share}
use Rattle.cert_value.specs.Certificates.{Table, Entry, CertificateValue}
use Rattle.checker_clauses.specs.declared.violation.Violation.TheVariants.{Classes, Shares, TableForm, GoalValue, Fall, ClosedState, Start, ClosedGoal, Successor}
use Rattle.checker_clauses.specs.Clauses.{share_of, value_of, abstraction_of, table_of, heuristic_of, lists, column_lists, is_within_cost, has_form, is_zero, is_goal_at_zero, falls_within_share, is_state, is_behind, is_listed, reaches_bound, is_covered, covers_successor}
use Rattle.checker_clauses.specs.Violations.{table_at}
use Rattle.checker_clauses.proofs.ClauseLaws.{not_false, passes_at, is_state_tells}
use Rattle.checker_clauses.proofs.Judging.{IsHeldFor}
use Rattle.checker_states.proofs.UnchangedStates.{values_stay, itself}
use Rattle.reduction.specs.Retained.{SameFacts}
use Rattle.reduction.specs.Represented.{IsGiven, LeavesStates}
use Rattle.reduction.proofs.Members.{all_at, all_from, any_at, any_from}
use Rattle.reduction.proofs.FactLists.{same_after}
use Rattle.reduction_certs.specs.InTask.{shares_in_task, table_in_task, columns_in_task, certificate_in_task, HasNumberedRows, HaveNumberedRows}
use Rattle.reduction_certs.proofs.ShareLaws.{share_is, past_not_listed}
use Rattle.reduction_certs.proofs.Transitions.{same_all, transition_same, domain_transition_same, transition_stays, domain_transition_stays}

-- ---- operators of one task and of another with the same variables

-- an equal operator of the second task costs at most as much
pub record HasEqual (whole fewer : FiniteDomainTask) (representatives : List (Option ℕ)) (o : ℕ) : Type 0 where
  pub index : ℕ
  pub op : Operator
  pub equal : Operator
  pub represented : slice_index_or representatives o None ≡ Some index
  pub at : slice_get whole.operators o ≡ Some op
  pub stands : slice_get fewer.operators index ≡ Some equal
  pub well : IsOperator (ranges whole) op
  pub well_equal : IsOperator (ranges whole) equal
  pub conditions : SameFacts op.precondition equal.precondition
  pub effects : SameFacts op.effect equal.effect
  pub cheap : cost_of fewer index ≤ cost_of whole o

-- the operator leaves states
pub record Leaves (whole : FiniteDomainTask) (representatives : List (Option ℕ)) (o : ℕ) : Type 0 where
  pub op : Operator
  pub represented : slice_index_or representatives o None ≡ None
  pub at : slice_get whole.operators o ≡ Some op
  pub well : IsOperator (ranges whole) op
  pub leaves : LeavesStates (ranges whole) op

pub record AreStanding (whole fewer : FiniteDomainTask) (representatives : List (Option ℕ)) : Type 0 where
  pub same_ranges : ranges whole ≡ ranges fewer
  pub initial : whole.initial ≡ fewer.initial
  pub goal : whole.goal ≡ fewer.goal
  pub as_many : length representatives ≡ length whole.operators
  pub each : (o : ℕ) → HasEqual whole fewer representatives o ⊎ (Leaves whole representatives o ⊎ (length whole.operators ≤ o))

-- ---- states

state_stays : (rs : List ℕ) (op : Operator) (s : List ℕ) → IsState rs s → IsOperator rs op → LeavesStates rs op → applies op s ≡ true → successor op s ≡ s
state_stays rs op s state well leaves h =
    values_stay op.effect s
    (all_from (holds s) op.effect
    (λ f c. ⊎_elim
    (λ (d : Contains op.precondition f). all_at (holds s) op.precondition f h d)
    (λ (one : slice_index rs f.variable ≡ 1).
    let range = All-contains (IsInRange rs) op.effect f well.effect.in_range c in
    let below = state.in_range f.variable range.0 in
    eq-eqb (slice_index s f.variable) f.value (omega (arith, range.1, below, one)))
    (All-contains (IsGiven rs op.precondition) op.effect f leaves c)))

-- ---- distances

at_most_more : (d : Distance) (n : ℕ) → is_at_most d (Finite n +ᵈ d) ≡ true
at_most_more (Finite m) n = le-leb m (n + m) (omega arith)
at_most_more Infinite n = refl

reaches_more : (b h : Distance) (m n : ℕ) → m ≤ n → is_at_most b (Finite m +ᵈ h) ≡ true → is_at_most b (Finite n +ᵈ h) ≡ true
reaches_more b Infinite m n l e = refl
reaches_more Infinite (Finite k) m n l e = absurd (false≢true e)
reaches_more (Finite j) (Finite k) m n l e = le-leb j (n + k) (omega (arith, l, leb-true j (m + k) e))

-- ---- sums of shares

sum_shares : (f : List Share → List Share) (g : List Share → ℕ) (o : ℕ) → ((shares : List Share) → share_of (f shares) o ≡ g shares) → (column : List Table) →
    sum_by (λ (t : Table). share_of t.shares o) (map (λ (t : Table). record t { shares = f t.shares }) column) ≡ sum_by (λ (t : Table). g t.shares) column
sum_shares f g o e [] = refl
sum_shares f g o e (t ∷ ts) =
    let rest = sum_shares f g o e ts in
    omega (
      arith,
      rest,
      e t.shares,
      sum_by-cons (λ (x : Table). share_of x.shares o) (record t { shares = f t.shares }) (map (λ (x : Table). record x { shares = f x.shares }) ts),
      sum_by-cons (λ (x : Table). g x.shares) t ts,
    )

sum_none : (column : List Table) → sum_by (λ (t : Table). 0) column ≡ 0
sum_none [] = refl
sum_none (t ∷ ts) = omega (arith, sum_none ts, sum_by-cons (λ (x : Table). 0) t ts)

-- ---- the certificate

table_at_map : (f : Table → Table) (columns : List (List Table)) (i j : ℕ) → table_at (map (map f) columns) i j ≡ option_map f (table_at columns i j)
table_at_map f columns i j = ap (option_and_then (λ column. slice_get column j)) (slice_get-map (map f) columns i) ∙ go (slice_get columns i)
  where
    go : (r : Option (List Table)) → option_and_then (λ column. slice_get column j) (option_map (map f) r) ≡ option_map f (option_and_then (λ column. slice_get column j) r)
    go None = refl
    go (Some column) = slice_get-map f column j

module _ (whole fewer : FiniteDomainTask) (representatives : List (Option ℕ)) (are : AreStanding whole fewer representatives) where
  abbrev in_whole : Table → Table
  in_whole t = table_in_task representatives t

  size_same : (m : Mapping) → (abstraction_by whole m).size ≡ (abstraction_by fewer m).size
  size_same (Pattern pattern) = ap (λ (rs : List ℕ). size_of rs pattern) are.same_ranges
  size_same (Domains rows) = ap (λ (rs : List ℕ). size_of (class_counts rows rs) (variables rows)) are.same_ranges

  index_same : (m : Mapping) (s : List ℕ) → (abstraction_by whole m).index s ≡ (abstraction_by fewer m).index s
  index_same (Pattern pattern) s = ap (λ (rs : List ℕ). index_of rs pattern s) are.same_ranges
  index_same (Domains rows) s = ap (λ (rs : List ℕ). index_of (class_counts rows rs) (variables rows) (class_state rows s)) are.same_ranges

  goal_same : (m : Mapping) (a : ℕ) → (abstraction_by whole m).is_goal a ≡ (abstraction_by fewer m).is_goal a
  goal_same (Pattern pattern) a =
      ap (λ (rs : List ℕ). list_all (agrees rs pattern a) whole.goal) are.same_ranges ∙ ap (λ (fs : List Fact). list_all (agrees (ranges fewer) pattern a) fs) are.goal
  goal_same (Domains rows) a =
      ap (λ (rs : List ℕ). list_all (agrees (class_counts rows rs) (variables rows) a) (class_facts rows whole.goal)) are.same_ranges
      ∙ ap (λ (fs : List Fact). list_all (agrees (class_counts rows (ranges fewer)) (variables rows) a) (class_facts rows fs)) are.goal

  of_task_same : (m : Mapping) → is_of_task whole m ≡ is_of_task fewer m
  of_task_same (Pattern pattern) =
      let long : length whole.value_names ≡ length fewer.value_names =
      sym (length-map whole.value_names length) ∙ ap (λ (rs : List ℕ). length rs) are.same_ranges ∙ length-map fewer.value_names length in
      ap (λ (n : ℕ). list_all (λ v. nat_lt v n) pattern) long
  of_task_same (Domains rows) = ap (λ (rs : List ℕ). list_all (is_fit rs) rows) are.same_ranges

  form_same : (t : Table) → has_form whole (in_whole t) ≡ has_form fewer t
  form_same t = rw (of_task_same t.mapping, size_same t.mapping) refl

  -- ---- the heuristic

  column_same : (s : List ℕ) (column : List Table) → column_value s (map (table_of whole) (map in_whole column)) ≡ column_value s (map (table_of fewer) column)
  column_same s [] = refl
  column_same s (t ∷ ts) =
      ap (λ (a : ℕ). value_of t a +ᵈ column_value s (map (table_of whole) (map in_whole ts))) (index_same t.mapping s)
      ∙ ap (λ (d : Distance). value_of t ((abstraction_of fewer t).index s) +ᵈ d) (column_same s ts)

  heuristic_same : (s : List ℕ) (columns : List (List Table)) → heuristic_of whole (columns_in_task representatives columns) s ≡ heuristic_of fewer columns s
  heuristic_same s [] = refl
  heuristic_same s (column ∷ columns) =
      ap (λ (d : Distance). larger d (heuristic_of whole (columns_in_task representatives columns) s)) (column_same s column)
      ∙ ap (larger (column_value s (map (table_of fewer) column))) (heuristic_same s columns)

  -- ---- steps and transitions

  module _ (o : ℕ) (h : HasEqual whole fewer representatives o) where
    equal_step : (s : List ℕ) → IsState (ranges whole) s → step whole s o ≡ step fewer s h.index
    equal_step s state =
        ap (option_and_then (λ op. cond (applies op s) (Some (successor op s)) None)) h.at
        ∙ ap (λ (b : Bool). cond b (Some (successor h.op s)) None) (same_all (holds s) h.op.precondition h.equal.precondition h.conditions)
        ∙ ap (λ (t : List ℕ). cond (applies h.equal s) (Some t) None)
        (same_after h.op.effect h.equal.effect s h.well.effect.distinct h.well_equal.effect.distinct (on h.op.effect h.well.effect.in_range) (on h.equal.effect h.well_equal.effect.in_range) h.effects)
        ∙ sym (ap (option_and_then (λ op. cond (applies op s) (Some (successor op s)) None)) h.stands)
      where
        on : (fs : List Fact) → All (IsInRange (ranges whole)) fs → All (λ f. f.variable < length s) fs
        on fs all = All-weaker (IsInRange (ranges whole)) (λ (f : Fact). f.variable < length s) (λ f k. omega (arith, k.0, state.as_long)) fs all

    equal_transition : (m : Mapping) (a : ℕ) → is_mapping whole m ≡ true → (abstraction_by whole m).transition a o ≡ (abstraction_by fewer m).transition a h.index
    equal_transition (Pattern pattern) a is =
        ap (option_and_then (transition_of (ranges whole) pattern a)) h.at
        ∙ transition_same (ranges whole) pattern a h.op h.equal h.conditions h.effects h.well.effect.distinct h.well_equal.effect.distinct
        ∙ ap (λ (rs : List ℕ). transition_of rs pattern a h.equal) are.same_ranges
        ∙ sym (ap (option_and_then (transition_of (ranges fewer) pattern a)) h.stands)
    equal_transition (Domains rows) a is =
        ap (option_and_then (λ op. transition_of (class_counts rows (ranges whole)) (variables rows) a (class_operator rows op))) h.at
        ∙ domain_transition_same (ranges whole) rows (tested.fit (ranges whole) rows (tested.of_task whole (Domains rows) is)) a h.op h.equal h.conditions h.effects h.well.effect h.well_equal.effect
        ∙ ap (λ (rs : List ℕ). transition_of (class_counts rows rs) (variables rows) a (class_operator rows h.equal)) are.same_ranges
        ∙ sym (ap (option_and_then (λ op. transition_of (class_counts rows (ranges fewer)) (variables rows) a (class_operator rows op))) h.stands)

  module _ (o : ℕ) (h : Leaves whole representatives o) where
    leaving_step : (s : List ℕ) → IsState (ranges whole) s → IfSome (step whole s o) (λ t. t ≡ s)
    leaving_step s state =
        subst (λ (r : Option Operator). IfSome (option_and_then (λ op. cond (applies op s) (Some (successor op s)) None) r) (λ t. t ≡ s)) (sym h.at) (go (applies h.op s) refl)
      where
        go : (b : Bool) → applies h.op s ≡ b → IfSome (cond b (Some (successor h.op s)) None) (λ t. t ≡ s)
        go false e = tt
        go true e = state_stays (ranges whole) h.op s state h.well h.leaves e

    leaving_transition : (m : Mapping) (a : ℕ) → is_mapping whole m ≡ true → HasNumberedRows m → a < (abstraction_by whole m).size → IfSome ((abstraction_by whole m).transition a o) (λ b. b ≡ a)
    leaving_transition (Pattern pattern) a is numbered l =
        subst (λ (r : Option Operator). IfSome (option_and_then (transition_of (ranges whole) pattern a) r) (λ b. b ≡ a)) (sym h.at)
        (transition_stays (ranges whole) pattern a h.op (rising_from pattern (tested.increasing whole (Pattern pattern) is)) l h.well.effect.in_range h.leaves)
    leaving_transition (Domains rows) a is numbered l =
        subst (λ (r : Option Operator). IfSome (option_and_then (λ op. transition_of (class_counts rows (ranges whole)) (variables rows) a (class_operator rows op)) r) (λ b. b ≡ a)) (sym h.at)
        (domain_transition_stays (ranges whole) rows (tested.fit (ranges whole) rows (tested.of_task whole (Domains rows) is)) numbered a h.op (rising_from (variables rows) (tested.increasing whole (Domains rows) is)) l h.well h.leaves)

  past_step : (s : List ℕ) (o : ℕ) → length whole.operators ≤ o → step whole s o ≡ None
  past_step s o l = ap (option_and_then (λ op. cond (applies op s) (Some (successor op s)) None)) (slice_get_past whole.operators o l)

  past_transition : (m : Mapping) (a o : ℕ) → length whole.operators ≤ o → (abstraction_by whole m).transition a o ≡ None
  past_transition (Pattern pattern) a o l = ap (option_and_then (transition_of (ranges whole) pattern a)) (slice_get_past whole.operators o l)
  past_transition (Domains rows) a o l =
      ap (option_and_then (λ op. transition_of (class_counts rows (ranges whole)) (variables rows) a (class_operator rows op))) (slice_get_past whole.operators o l)

  share_at : (o : ℕ) (r : Option ℕ) → slice_index_or representatives o None ≡ r → (shares : List Share) → share_of (shares_in_task representatives shares) o ≡ option_map_or (share_of shares) r 0
  share_at o r e shares = share_is representatives shares o ∙ ap (λ (q : Option ℕ). option_map_or (share_of shares) q 0) e

  module _ (classes : List (List ℕ)) (c : CertificateValue) (held : IsHeldFor fewer c) (numbered : HaveNumberedRows c.columns) where
    abbrev made : CertificateValue
    made = certificate_in_task classes representatives c

    -- ---- shares

    exists : (o : ℕ) (op : Operator) (column : List Table) → slice_get whole.operators o ≡ Some op → (ltb o (length whole.operators) || not (column_lists column o)) ≡ true
    exists o op column e = or_left (ltb o (length whole.operators)) (not (column_lists column o)) (lt-ltb o (length whole.operators) (slice_get_within whole.operators o op e))

    none_lists : (o : ℕ) (column : List Table) → length whole.operators ≤ o → column_lists (map in_whole column) o ≡ false
    none_lists o [] l = refl
    none_lists o (t ∷ ts) l =
        or_from (lists (in_whole t).shares o) (column_lists (map in_whole ts) o) (past_not_listed representatives t.shares o (omega (arith, l, are.as_many))) (none_lists o ts l)

    within_cost : (i o : ℕ) (column : List Table) → slice_get c.columns i ≡ Some column → is_within_cost whole (map in_whole column) o ≡ true
    within_cost i o column e =
        ⊎_elim
        (λ (h : HasEqual whole fewer representatives o).
        let passes = and_parts (leb (sum_by (λ (t : Table). share_of t.shares h.index) column) (cost_of fewer h.index)) (ltb h.index (length fewer.operators) || not (column_lists column h.index)) (passes_at (λ (d : List Table). is_within_cost fewer d h.index) (slice_get c.columns i) column e (held (Shares i h.index) (omega arith))) in
        let low = leb-true (sum_by (λ (t : Table). share_of t.shares h.index) column) (cost_of fewer h.index) passes.0 in
        let sum = sum_shares (shares_in_task representatives) (λ (s : List Share). share_of s h.index) o (share_at o (Some h.index) h.represented) column in
        and_from (leb (sum_by (λ (t : Table). share_of t.shares o) (map in_whole column)) (cost_of whole o)) _
        (le-leb _ _ (omega (arith, sum, h.cheap, low))) (exists o h.op (map in_whole column) h.at))
        (λ (rest : Leaves whole representatives o ⊎ (length whole.operators ≤ o)).
        ⊎_elim
        (λ (h : Leaves whole representatives o).
        let sum = sum_shares (shares_in_task representatives) (λ (s : List Share). 0) o (share_at o None h.represented) column in
        and_from (leb (sum_by (λ (t : Table). share_of t.shares o) (map in_whole column)) (cost_of whole o)) _
        (le-leb _ _ (omega (arith, sum, sum_none column))) (exists o h.op (map in_whole column) h.at))
        (λ (l : length whole.operators ≤ o).
        let sum = sum_shares (shares_in_task representatives) (λ (s : List Share). 0) o (share_at o None (past_none l)) column in
        and_from (leb (sum_by (λ (t : Table). share_of t.shares o) (map in_whole column)) (cost_of whole o)) _
        (le-leb _ _ (omega (arith, sum, sum_none column)))
        (or_right (ltb o (length whole.operators)) (not (column_lists (map in_whole column) o)) (not_from_false (column_lists (map in_whole column) o) (none_lists o column l))))
        rest)
        (are.each o)
      where
        past_none : length whole.operators ≤ o → slice_index_or representatives o None ≡ None
        past_none l = get_or_past representatives o None (omega (arith, l, are.as_many))

    -- ---- tables

    numbered_at : (i j : ℕ) (t : Table) → table_at c.columns i j ≡ Some t → HasNumberedRows t.mapping
    numbered_at i j t e = go (slice_get c.columns i) refl e
      where
        go : (r : Option (List Table)) → slice_get c.columns i ≡ r → option_and_then (λ column. slice_get column j) r ≡ Some t → HasNumberedRows t.mapping
        go None q k = absurd (none-some t k)
        go (Some column) q k =
            let tables = at_some (All (λ (x : Table). HasNumberedRows x.mapping)) (slice_get c.columns i) column q (found (All (λ (x : Table). HasNumberedRows x.mapping)) c.columns i numbered) in
            at_some (λ (x : Table). HasNumberedRows x.mapping) (slice_get column j) t k (found (λ (x : Table). HasNumberedRows x.mapping) column j tables)

    -- what is said of a table of the certificate is said of one of the given certificate
    of_table : (P : Table → Type 0) (i j : ℕ) → IsSomeAnd (table_at made.columns i j) P → (t : Table) × (table_at c.columns i j ≡ Some t) × P (in_whole t)
    of_table P i j h = go (table_at c.columns i j) refl (subst (λ (r : Option Table). IsSomeAnd r P) (table_at_map in_whole c.columns i j) h)
      where
        go : (r : Option Table) → table_at c.columns i j ≡ r → IsSomeAnd (option_map in_whole r) P → (t : Table) × (table_at c.columns i j ≡ Some t) × P (in_whole t)
        go None e k = absurd k
        go (Some t) e k = (t, e, k)

    form_at : (i j : ℕ) (t : Table) → table_at c.columns i j ≡ Some t → has_form whole (in_whole t) ≡ true
    form_at i j t e = form_same t ∙ passes_at (has_form fewer) (table_at c.columns i j) t e (held (TableForm i j) (omega arith))

    goal_value_at : (i j a : ℕ) (t : Table) → table_at c.columns i j ≡ Some t → a < (abstraction_of whole t).size → is_goal_at_zero whole (in_whole t) a ≡ true
    goal_value_at i j a t e l =
        ap (λ (b : Bool). cond b (is_zero (value_of t a)) true) (goal_same t.mapping a)
        ∙ not_false (is_goal_at_zero fewer t a)
        (λ f. held (GoalValue i j a) (omega arith)
        (subst (λ (r : Option Table). IsSomeAnd r (λ x. (a < (abstraction_of fewer x).size) × (is_goal_at_zero fewer x a ≡ false))) (sym e) (subst (λ (n : ℕ). a < n) (size_same t.mapping) l, f)))

    fall_at : (i j a o : ℕ) (t : Table) → table_at c.columns i j ≡ Some t → a < (abstraction_of whole t).size → falls_within_share whole (in_whole t) a o ≡ true
    fall_at i j a o t e l = ⊎_elim equal (λ (rest : Leaves whole representatives o ⊎ (length whole.operators ≤ o)). ⊎_elim leaving past rest) (are.each o)
      where
        is : is_mapping whole t.mapping ≡ true
        is = (and_parts (is_mapping whole t.mapping) _ (form_at i j t e)).0

        falls : ℕ → Option ℕ → Bool
        falls n r = option_map_or (λ b. is_at_most (value_of t a) (Finite n +ᵈ value_of t b)) r true

        share : ℕ
        share = share_of (shares_in_task representatives t.shares) o

        equal : HasEqual whole fewer representatives o → falls_within_share whole (in_whole t) a o ≡ true
        equal h =
            ap (falls share) (equal_transition o h t.mapping a is)
            ∙ ap (λ (n : ℕ). falls n ((abstraction_by fewer t.mapping).transition a h.index)) (share_at o (Some h.index) h.represented t.shares)
            ∙ not_false (falls_within_share fewer t a h.index)
            (λ f. held (Fall i j a h.index) (omega arith)
            (subst (λ (r : Option Table). IsSomeAnd r (λ x. (a < (abstraction_of fewer x).size) × (falls_within_share fewer x a h.index ≡ false))) (sym e) (subst (λ (n : ℕ). a < n) (size_same t.mapping) l, f)))

        stays : (r : Option ℕ) → IfSome r (λ b. b ≡ a) → falls share r ≡ true
        stays None h = refl
        stays (Some b) h = subst (λ (k : ℕ). is_at_most (value_of t a) (Finite share +ᵈ value_of t k) ≡ true) (sym h) (at_most_more (value_of t a) share)

        leaving : Leaves whole representatives o → falls_within_share whole (in_whole t) a o ≡ true
        leaving h = stays ((abstraction_by whole t.mapping).transition a o) (leaving_transition o h t.mapping a is (numbered_at i j t e) l)

        past : length whole.operators ≤ o → falls_within_share whole (in_whole t) a o ≡ true
        past k = ap (falls share) (past_transition t.mapping a o k)

    -- ---- closed states

    covered_same : (s : List ℕ) (g : ℕ) → is_covered whole made s g ≡ is_covered fewer c s g
    covered_same s g = ap (λ (d : Distance). is_listed c.closed s g || is_at_most c.bound (Finite g +ᵈ d)) (heuristic_same s c.columns)

    listed_more : (s : List ℕ) (g h : ℕ) → g ≤ h → is_listed c.closed s g ≡ true → is_listed c.closed s h ≡ true
    listed_more s g h l e =
        let there = any_at (λ (x : Entry). pointwise nat_eq x.state s && nat_le x.cost g) c.closed e in
        let x : Entry = there.0 in
        let parts = and_parts (pointwise nat_eq x.state s) (nat_le x.cost g) there.2 in
        any_from (λ (y : Entry). pointwise nat_eq y.state s && nat_le y.cost h) c.closed x there.1 (and_from (pointwise nat_eq x.state s) (nat_le x.cost h) parts.0 (le-leb x.cost h (omega (arith, l, leb-true x.cost g parts.1))))

    covered_more : (s : List ℕ) (g h : ℕ) → g ≤ h → is_covered fewer c s g ≡ true → is_covered whole made s h ≡ true
    covered_more s g h l e =
        covered_same s h
        ∙ ⊎_elim
        (λ (k : is_listed c.closed s g ≡ true). or_left (is_listed c.closed s h) (reaches_bound fewer c s h) (listed_more s g h l k))
        (λ (k : reaches_bound fewer c s g ≡ true). or_right (is_listed c.closed s h) (reaches_bound fewer c s h) (reaches_more c.bound (heuristic_of fewer c.columns s) g h l k))
        (or_cases (is_listed c.closed s g) (reaches_bound fewer c s g) e)

    state_at : (i : ℕ) (x : Entry) → slice_get c.closed i ≡ Some x → IsState (ranges whole) x.state
    state_at i x e =
        subst (λ (rs : List ℕ). IsState rs x.state) (sym are.same_ranges)
        (is_state_tells (ranges fewer) x.state
        (and_parts (is_state (ranges fewer) x.state) (is_behind c.closed i x.state) (passes_at (λ (y : Entry). is_state (ranges fewer) y.state && is_behind c.closed i y.state) (slice_get c.closed i) x e (held (ClosedState i) (omega arith)))).0)

    successor_at : (i o : ℕ) (x : Entry) → slice_get c.closed i ≡ Some x → covers_successor whole made x o ≡ true
    successor_at i o x e = ⊎_elim equal (λ (rest : Leaves whole representatives o ⊎ (length whole.operators ≤ o)). ⊎_elim leaving past rest) (are.each o)
      where
        state : IsState (ranges whole) x.state
        state = state_at i x e

        covers : Option (List ℕ) → Bool
        covers r = option_map_or (λ s. is_covered whole made s (x.cost + cost_of whole o)) r true

        equal : HasEqual whole fewer representatives o → covers_successor whole made x o ≡ true
        equal h =
            ap covers (equal_step o h x.state state)
            ∙ go (step fewer x.state h.index) (passes_at (λ (y : Entry). covers_successor fewer c y h.index) (slice_get c.closed i) x e (held (Successor i h.index) (omega arith)))
          where
            go : (r : Option (List ℕ)) → option_map_or (λ s. is_covered fewer c s (x.cost + cost_of fewer h.index)) r true ≡ true → covers r ≡ true
            go None k = refl
            go (Some s) k = covered_more s (x.cost + cost_of fewer h.index) (x.cost + cost_of whole o) (omega (arith, h.cheap)) k

        itself_listed : (r : Option (List ℕ)) → IfSome r (λ s. s ≡ x.state) → covers r ≡ true
        itself_listed None h = refl
        itself_listed (Some s) h =
            subst (λ (t : List ℕ). is_covered whole made t (x.cost + cost_of whole o) ≡ true) (sym h)
            (or_left (is_listed c.closed x.state (x.cost + cost_of whole o)) (reaches_bound whole made x.state (x.cost + cost_of whole o))
            (any_from (λ (y : Entry). pointwise nat_eq y.state x.state && nat_le y.cost (x.cost + cost_of whole o)) c.closed x (i, slice_get_within c.closed i x e, get_or_from_slice_get c.closed i x x e)
            (and_from (pointwise nat_eq x.state x.state) (nat_le x.cost (x.cost + cost_of whole o)) (itself x.state) (le-leb x.cost (x.cost + cost_of whole o) (omega arith)))))

        leaving : Leaves whole representatives o → covers_successor whole made x o ≡ true
        leaving h = itself_listed (step whole x.state o) (leaving_step o h x.state state)

        past : length whole.operators ≤ o → covers_successor whole made x o ≡ true
        past k = ap covers (past_step x.state o k)

    -- ---- all clauses but that on classes

    refuted : {X : Type 0} (test : X → Bool) (r : Option X) → ((x : X) → r ≡ Some x → test x ≡ true) → IsSomeAnd r (λ x. test x ≡ false) → ⊥
    refuted test None h k = k
    refuted test (Some x) h k = false≢true (sym k ∙ h x refl)

    pub held_for_whole : IsHeldFor whole made
    held_for_whole (Classes v) l bad = omega (arith, l)
    held_for_whole (Shares i o) l bad = go (slice_get c.columns i) refl (subst (λ (r : Option (List Table)). IsSomeAnd r (λ column. is_within_cost whole column o ≡ false)) (slice_get-map (map in_whole) c.columns i) bad)
      where
        go : (r : Option (List Table)) → slice_get c.columns i ≡ r → IsSomeAnd (option_map (map in_whole) r) (λ column. is_within_cost whole column o ≡ false) → ⊥
        go None e k = k
        go (Some column) e k = false≢true (sym k ∙ within_cost i o column e)
    held_for_whole (TableForm i j) l bad = let t = of_table (λ (x : Table). has_form whole x ≡ false) i j bad in false≢true (sym t.2 ∙ form_at i j t.0 t.1)
    held_for_whole (GoalValue i j a) l bad =
        let t = of_table (λ (x : Table). (a < (abstraction_of whole x).size) × (is_goal_at_zero whole x a ≡ false)) i j bad in false≢true (sym t.2.1 ∙ goal_value_at i j a t.0 t.1 t.2.0)
    held_for_whole (Fall i j a o) l bad =
        let t = of_table (λ (x : Table). (a < (abstraction_of whole x).size) × (falls_within_share whole x a o ≡ false)) i j bad in false≢true (sym t.2.1 ∙ fall_at i j a o t.0 t.1 t.2.0)
    held_for_whole (ClosedState i) l bad =
        held (ClosedState i) l (subst (λ (rs : List ℕ). IsSomeAnd (slice_get c.closed i) (λ x. (is_state rs x.state && is_behind c.closed i x.state) ≡ false)) are.same_ranges bad)
    held_for_whole Start l bad = held Start l (sym (ap (λ (s : List ℕ). is_covered whole made s 0) are.initial ∙ covered_same fewer.initial 0) ∙ bad)
    held_for_whole (ClosedGoal i) l bad =
        held (ClosedGoal i) l (subst (λ (fs : List Fact). IsSomeAnd (slice_get c.closed i) (λ x. cond (list_all (holds x.state) fs) (is_at_most c.bound (Finite x.cost)) true ≡ false)) are.goal bad)
    held_for_whole (Successor i o) l bad = refuted (λ (x : Entry). covers_successor whole made x o) (slice_get c.closed i) (successor_at i o) bad
