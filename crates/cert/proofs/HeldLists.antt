-- A finished closed list whose states rise, with a cost partitioning, is a certificate that fails nowhere.
use Rattle.std.proofs.Common.{◌≡◌, ℕ, zero, suc, ◌+◌, ◌<◌, ◌≤◌, Bool, true, false, ◌&&◌, ◌||◌, List, [], ◌∷◌, length, map, Option, Some, None, cond, ltb, refl, sym, ap, ◌∙◌, inl, inr, ⊎_elim, subst, arith, true≢false, le-leb, lt-ltb}
use Rattle.std.specs.Prelude.{All, not, IfSome, IsSomeAnd, option_and_then, slice_get, slice_index, sum_by, nat_eq, nat_le}
use Rattle.std.specs.Option.{option_map_or}
use Rattle.std.specs.Cmp.Lexicographic.{pointwise, bytes_decides}
use Rattle.std.specs.List.{AllByRecursion}
use Rattle.std.proofs.Math.Logic.{∥∥₁_elim}
use Rattle.std.proofs.lemmas.Bool.{and_from, or_left, or_right, or_cases, cond_both, cases_Bool, cases_eq, cases_lt, eq-eqb, ne_eqb}
use Rattle.std.proofs.lemmas.Option.{slice_get_past}
use Rattle.std.proofs.lemmas.List.Elements.{All-weaker}
use Rattle.std.proofs.lemmas.List.Folds.{list_any-from_Any}
use Rattle.std.proofs.lemmas.List.Sums.{sum_by-cons}
use Rattle.cost.specs.Distances.{Distance, Finite, ◌≤ᵈ◌, ◌+ᵈ◌, is_at_most}
use Rattle.cost.proofs.DistanceLaws.{is_at_most-from}
use Rattle.fdr.specs.Tasks.{FiniteDomainTask, ranges, IsState, step, is_goal_state, Operator, operator_cost, cost_of}
use Rattle.abstraction.specs.Abstractions as abstraction
use Rattle.abstraction.specs.Columns.{IsColumn, IsTableOf}
use Rattle.abstraction.specs.Steps.{found}
use Rattle.cert_value.specs.declared.certificate.Version.TheVariants.{Two}
use Rattle.cert_value.specs.declared.table.Share.{Share}
use Rattle.cert_value.specs.Certificates.{Kind, Table, Entry, CertificateValue}
use Rattle.cert_value.specs.Lawful.{IsShare, IsTable}
use Rattle.cert_value.specs.Lawful as text
use Rattle.checker_clauses.specs.declared.violation.Violation.TheVariants.{Classes, Shares, TableForm, GoalValue, Fall, ClosedState, Start, ClosedGoal, Successor}
use Rattle.checker_clauses.specs.Clauses.{abstraction_of, share_of, value_of, table_of, heuristic_of, lists, column_lists, is_within_cost, has_form, is_zero, is_goal_at_zero, falls_within_share, is_state, is_behind, is_listed, reaches_bound, is_covered, is_dear_if_goal, covers_successor}
use Rattle.checker_clauses.specs.ClosedLists.{IsListed, IsCovered, CoversSuccessors, IsFinished}
use Rattle.checker_clauses.specs.Violations.{table_at, IsHeld}
use Rattle.scp.specs.Partitions.{AreCostPartitioned}
use Rattle.scp.proofs.ChosenMappings.{from_map}
use Rattle.cert.specs.Orders.{IsRising}

-- that a certificate fails nowhere is a proposition
pub held_prop : (task : FiniteDomainTask) (c : CertificateValue) → IsProp (IsHeld task c)
held_prop task c x y = λ i v bad. absurd {A = x v bad ≡ y v bad} (x v bad) i

-- ---- look-ups

-- no look-up finds what excludes what each has
none_found : {X : Type 0} (P Q : X → Type 0) (r : Option X) → IfSome r P → ((x : X) → P x → Q x → ⊥) → IsSomeAnd r Q → ⊥
none_found P Q None all excludes bad = bad
none_found P Q (Some x) all excludes bad = excludes x all bad

found_by : {X : Type 0} (P : X → Type 0) (xs : List X) (i : ℕ) → AllByRecursion P xs → IfSome (slice_get xs i) P
found_by P [] i all = tt
found_by P (x ∷ xs) zero all = all.0
found_by P (x ∷ xs) (suc i) all = found_by P xs i all.1

both_found : {X : Type 0} (P Q : X → Type 0) (r : Option X) → IfSome r P → IfSome r Q → IfSome r (λ x. P x × Q x)
both_found P Q None p q = tt
both_found P Q (Some x) p q = (p, q)

found_table : (P : Table → Type 0) (r : Option (List Table)) (j : ℕ) → IfSome r (All P) → IfSome (option_and_then (λ column. slice_get column j) r) P
found_table P None j all = tt
found_table P (Some column) j all = found P column j all

not_both : (b : Bool) → b ≡ true → b ≡ false → ⊥
not_both b e f = true≢false (sym e ∙ f)

-- ---- states

state_test : (rs xs : List ℕ) → length xs ≡ length rs → ((v : ℕ) → v < length rs → slice_index xs v < slice_index rs v) → is_state rs xs ≡ true
state_test [] [] long below = refl
state_test [] (x ∷ xs) long below = absurd (omega (arith, long))
state_test (r ∷ rs) [] long below = absurd (omega (arith, long))
state_test (r ∷ rs) (x ∷ xs) long below =
    and_from _ _ (lt-ltb x r (below 0 (omega arith))) (state_test rs xs (omega (arith, long)) (λ v l. below (suc v) (omega (arith, l))))

-- ---- listed operators

-- a lawful table gives an operator that it lists a share of at least 1
listed_share : (o : ℕ) (shares : List Share) → AllByRecursion IsShare shares → lists shares o ≡ true → 1 ≤ share_of shares o
listed_share o [] all listed = absurd (true≢false (sym listed))
listed_share o (s ∷ shares) all listed =
    ⊎_elim
    (λ (q : s.operator ≡ o). rw (ap (λ b. cond b s.amount (share_of shares o)) (eq-eqb s.operator o q)) all.0.least)
    (λ (ne : s.operator ≡ o → ⊥).
    rw (ap (λ b. cond b s.amount (share_of shares o)) (ne_eqb s.operator o ne))
    (listed_share o shares all.1 (sym (ap (λ b. b || lists shares o) (ne_eqb s.operator o ne)) ∙ listed)))
    (cases_eq s.operator o)

listed_total : (o : ℕ) (column : List Table) → AllByRecursion (IsTable Two) column → column_lists column o ≡ true → 1 ≤ sum_by (λ t. share_of t.shares o) column
listed_total o [] all listed = absurd (true≢false (sym listed))
listed_total o (t ∷ ts) all listed =
    ⊎_elim
    (λ here. omega (arith, sum_by-cons (λ (u : Table). share_of u.shares o) t ts, listed_share o t.shares all.0.shares.each here))
    (λ there. omega (arith, sum_by-cons (λ (u : Table). share_of u.shares o) t ts, listed_total o ts all.1 there))
    (or_cases (lists t.shares o) (column_lists ts o) listed)

module _ (task : FiniteDomainTask) where
  -- ---- tables

  column_shares : (column : List Table) (o : ℕ) → sum_by (λ (t : abstraction.Table). t.share o) (map (table_of task) column) ≡ sum_by (λ t. share_of t.shares o) column
  column_shares [] o = refl
  column_shares (t ∷ ts) o =
      rw (sum_by-cons (λ (t : abstraction.Table). t.share o) (table_of task t) (map (table_of task) ts), sum_by-cons (λ (t : Table). share_of t.shares o) t ts, column_shares ts o) refl

  abbrev total : List Table → ℕ → ℕ
  total column o = sum_by (λ t. share_of t.shares o) column

  -- an operator with shares that its cost covers costs something, so it exists
  paid_exists : (o : ℕ) → 1 ≤ cost_of task o → o < length task.operators
  paid_exists o paid =
      ⊎_elim (λ l. l)
      (λ past. absurd (omega (arith, paid, ap (λ (r : Option Operator). option_map_or (operator_cost task.metric) r 0) (slice_get_past task.operators o past))))
      (cases_lt o (length task.operators))

  within_cost : (column : List Table) → IsColumn task (map (table_of task) column) → AllByRecursion (IsTable Two) column → (o : ℕ) → is_within_cost task column o ≡ true
  within_cost column is all o =
      let low : total column o ≤ cost_of task o = subst (λ n. n ≤ cost_of task o) (column_shares column o) (is.costs o) in
      and_from _ _ (le-leb _ _ low)
      (⊎_elim
      (λ listed. or_left _ (not (column_lists column o)) (lt-ltb o (length task.operators) (paid_exists o (omega (arith, low, listed_total o column all listed)))))
      (λ unlisted. or_right (ltb o (length task.operators)) _ (ap not unlisted))
      (cases_Bool (column_lists column o)))

  goal_at_zero : (t : Table) → IsTableOf task (table_of task t) → (a : ℕ) → a < (abstraction_of task t).size → is_goal_at_zero task t a ≡ true
  goal_at_zero t is a low =
      cond_both ((abstraction_of task t).is_goal a) (is_zero (value_of t a)) true (λ b. b ≡ true) (λ goal. ap is_zero (is.consistent.goals a low goal)) (λ _. refl)

  at_most_each : (d : Distance) (value : ℕ → Distance) (n : ℕ) (r : Option ℕ) → IfSome r (λ b. d ≤ᵈ Finite n +ᵈ value b) → option_map_or (λ b. is_at_most d (Finite n +ᵈ value b)) r true ≡ true
  at_most_each d value n None all = refl
  at_most_each d value n (Some b) all = is_at_most-from d (Finite n +ᵈ value b) all

  within_share : (t : Table) → IsTableOf task (table_of task t) → (a o : ℕ) → a < (abstraction_of task t).size → falls_within_share task t a o ≡ true
  within_share t is a o low = at_most_each (value_of t a) (value_of t) (share_of t.shares o) ((abstraction_of task t).transition a o) (is.consistent.steps a o low)

  module _ (columns : List (List Table)) (divided : AreCostPartitioned task columns) where
    abbrev IsOfTask : Table → Type 0
    IsOfTask t = IsTableOf task (table_of task t)

    tables_of_task : All (All IsOfTask) columns
    tables_of_task =
        All-weaker (λ column. IsColumn task (map (table_of task) column)) (All IsOfTask) (λ column is. from_map (IsTableOf task) (table_of task) column is.tables) columns divided.each

    -- the column partitions the costs, and has a text
    abbrev IsHeldColumn : List Table → Type 0
    IsHeldColumn column = IsColumn task (map (table_of task) column) × text.IsColumn Two column

    held_column_at : (i : ℕ) → IfSome (slice_get columns i) IsHeldColumn
    held_column_at i =
        both_found (λ column. IsColumn task (map (table_of task) column)) (text.IsColumn Two) (slice_get columns i)
        (found (λ column. IsColumn task (map (table_of task) column)) columns i divided.each) (found_by (text.IsColumn Two) columns i divided.lawful.each)

    abbrev HasForm : Table → Type 0
    HasForm t = has_form task t ≡ true

    formed_at : (i j : ℕ) → IfSome (table_at columns i j) HasForm
    formed_at i j = found_table HasForm (slice_get columns i) j (found (All HasForm) columns i divided.formed)

    of_task_at : (i j : ℕ) → IfSome (table_at columns i j) IsOfTask
    of_task_at i j = found_table IsOfTask (slice_get columns i) j (found (All IsOfTask) columns i tables_of_task)

    module _ (kind : Kind) (bound : Distance) (closed : List Entry) (finished : IsFinished task (heuristic_of task columns) bound closed) (rising : IsRising closed) where
      abbrev made : CertificateValue
      made = record { version = Two; kind = kind; bound = bound; classes = []; columns = columns; closed = closed }

      -- ---- closed states

      listed_test : (s : List ℕ) (g : ℕ) → IsListed closed s g → is_listed closed s g ≡ true
      listed_test s g (k, e, low, is, found_e) =
          list_any-from_Any (λ (e : Entry). pointwise nat_eq e.state s && nat_le e.cost g) closed
          (k, e, low, is, and_from _ _ ((bytes_decides e.state s).1 found_e.0) (le-leb _ _ found_e.1))

      covered_test : (s : List ℕ) (g : ℕ) → IsCovered closed (heuristic_of task columns) bound s g → is_covered task made s g ≡ true
      covered_test s g (inl listed) = or_left (is_listed closed s g) (reaches_bound task made s g) (listed_test s g listed)
      covered_test s g (inr above) = or_right (is_listed closed s g) (reaches_bound task made s g) (is_at_most-from bound _ above)

      covers_test : (e : Entry) (o : ℕ) (r : Option (List ℕ)) → IfSome r (λ s. IsCovered closed (heuristic_of task columns) bound s (e.cost + cost_of task o))
          → option_map_or (λ s. is_covered task made s (e.cost + cost_of task o)) r true ≡ true
      covers_test e o None all = refl
      covers_test e o (Some s) all = covered_test s (e.cost + cost_of task o) all

      dear_test : (e : Entry) → (is_goal_state task e.state ≡ true → bound ≤ᵈ Finite e.cost) → is_dear_if_goal task made e ≡ true
      dear_test e dear = cond_both (is_goal_state task e.state) (is_at_most bound (Finite e.cost)) true (λ b. b ≡ true) (λ goal. is_at_most-from bound (Finite e.cost) (dear goal)) (λ _. refl)

      state_at : (i : ℕ) (r : Option Entry) → slice_get closed i ≡ r → IfSome r (λ e. IsState (ranges task) e.state)
          → IsSomeAnd r (λ e. (is_state (ranges task) e.state && is_behind closed i e.state) ≡ false) → ⊥
      state_at i None at is bad = bad
      state_at i (Some e) at is bad = not_both _ (and_from _ _ (state_test (ranges task) e.state is.as_long is.in_range) (rising i e at)) bad

      pub held : IsHeld task made
      held (Classes v) bad = omega (arith, bad.0)
      held (Shares i o) bad =
          none_found IsHeldColumn (λ column. is_within_cost task column o ≡ false) (slice_get columns i)
          (held_column_at i) (λ column is. not_both _ (within_cost column is.0 is.1.tables o)) bad
      held (TableForm i j) bad = none_found HasForm (λ t. has_form task t ≡ false) (table_at columns i j) (formed_at i j) (λ t. not_both _) bad
      held (GoalValue i j a) bad =
          none_found IsOfTask (λ t. (a < (abstraction_of task t).size) × (is_goal_at_zero task t a ≡ false)) (table_at columns i j) (of_task_at i j)
          (λ t is fails. not_both _ (goal_at_zero t is a fails.0) fails.1) bad
      held (Fall i j a o) bad =
          none_found IsOfTask (λ t. (a < (abstraction_of task t).size) × (falls_within_share task t a o ≡ false)) (table_at columns i j) (of_task_at i j)
          (λ t is fails. not_both _ (within_share t is a o fails.0) fails.1) bad
      held (ClosedState i) bad = state_at i (slice_get closed i) refl (found (λ e. IsState (ranges task) e.state) closed i finished.states) bad
      held Start bad = not_both _ (covered_test task.initial 0 finished.start) bad
      held (ClosedGoal i) bad =
          none_found (λ e. is_goal_state task e.state ≡ true → bound ≤ᵈ Finite e.cost) (λ e. is_dear_if_goal task made e ≡ false) (slice_get closed i)
          (found (λ e. is_goal_state task e.state ≡ true → bound ≤ᵈ Finite e.cost) closed i finished.goals) (λ e dear. not_both _ (dear_test e dear)) bad
      held (Successor i o) bad =
          none_found (λ e. CoversSuccessors task closed (heuristic_of task columns) bound e.state e.cost) (λ e. covers_successor task made e o ≡ false) (slice_get closed i)
          (found (λ e. CoversSuccessors task closed (heuristic_of task columns) bound e.state e.cost) closed i finished.successors)
          (λ e covers. not_both _ (covers_test e o (step task e.state o) (covers o))) bad

-- the same where it is only known that the columns are a cost partitioning
pub merely_held : (task : FiniteDomainTask) (kind : Kind) (bound : Distance) (columns : List (List Table)) (closed : List Entry) → ∥ AreCostPartitioned task columns ∥₁
    → IsFinished task (heuristic_of task columns) bound closed → IsRising closed → IsHeld task (record { version = Two; kind = kind; bound = bound; classes = []; columns = columns; closed = closed })
merely_held task kind bound columns closed divided finished rising =
    ∥∥₁_elim divided (held_prop task (record { version = Two; kind = kind; bound = bound; classes = []; columns = columns; closed = closed })) (λ known. held task columns known kind bound closed finished rising)
