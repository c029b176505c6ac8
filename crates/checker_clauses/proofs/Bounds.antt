-- The clauses imply the bound.
use Rattle.std.proofs.Common.{◌≡◌, ℕ, ◌+◌, ◌<◌, Bool, true, false, ◌&&◌, ◌||◌, List, [], ◌∷◌, Option, Some, None, refl, arith, inl, inr, leb-true}
use Rattle.std.specs.Prelude.{slice_get, map, sum_by, IfSome, All, nat_eq, nat_le}
use Rattle.std.specs.Option.{option_map_or}
use Rattle.std.specs.Cmp.Lexicographic.{pointwise}
use Rattle.std.proofs.lemmas.List.Elements.{All-map}
use Rattle.std.proofs.lemmas.List.Sums.{sum_by-cons}
use Rattle.std.proofs.lemmas.List.Folds.{Any-from_list_any}
use Rattle.std.proofs.lemmas.Bool.{and_parts}
use Rattle.cost.specs.Distances.{Finite, ◌≤ᵈ◌, ◌+ᵈ◌, is_at_most}
use Rattle.cost.proofs.DistanceLaws.{is_at_most-true}
use Rattle.fdr.specs.Tasks.{FiniteDomainTask, ranges, IsTask, EveryPlanCostsAtLeast, step, is_goal_state, cost_of}
use Rattle.abstraction.specs.Abstractions as abstraction
use Rattle.abstraction.specs.Abstractions.{IsConsistent}
use Rattle.abstraction_mapping.specs.Mappings.{is_mapping}
use Rattle.abstraction.specs.Columns.{IsTableOf, IsColumn}
use Rattle.cert_value.specs.Certificates.{Table, Entry, CertificateValue}
use Rattle.checker_clauses.specs.declared.violation.Violation.TheVariants.{Classes, Shares, TableForm, GoalValue, Fall, ClosedState, Start, ClosedGoal, Successor}
use Rattle.checker_clauses.specs.Clauses.{fits_row, judged_task, share_of, value_of, table_of, abstraction_of, columns_of, heuristic_of, is_within_cost, has_form, is_goal_at_zero, falls_within_share, is_state, is_behind, is_listed, reaches_bound, is_covered, is_dear_if_goal, covers_successor}
use Rattle.checker_clauses.specs.ClosedLists.{IsListed, IsCovered, CoversSuccessors, IsFinished}
use Rattle.checker_clauses.specs.Violations.{clause_of, Violates, IsHeld, table_at}
use Rattle.checker_clauses.proofs.ClauseLaws.{not_false, each, passes_at, zero_distance, is_state_tells, same_values}
use Rattle.abstraction_mapping.specs.TestedMappings.{abstracts}
use Rattle.checker_clauses.proofs.Following.{bound_holds}
use Rattle.checker_clauses.proofs.Judging.{IsHeldFor, held_for_judged, judged_bound}
use Rattle.abstraction.proofs.Bounds.{heuristic_lower}

-- `abstraction.proofs.Bounds` is not this crate's: the law stands on a public call there
module _ (task : FiniteDomainTask) (well : IsTask task) (c : CertificateValue) (held : IsHeldFor task c) where
  -- the sum of the shares in a column
  column_shares : (column : List Table) (o : ℕ) → sum_by (λ (t : abstraction.Table). t.share o) (map (table_of task) column) ≡ sum_by (λ t. share_of t.shares o) column
  column_shares [] o = refl
  column_shares (t ∷ ts) o =
      rw (sum_by-cons (λ (t : abstraction.Table). t.share o) (table_of task t) (map (table_of task) ts), sum_by-cons (λ (t : Table). share_of t.shares o) t ts, column_shares ts o) refl

  table_found : (i j : ℕ) (column : List Table) (t : Table) → slice_get c.columns i ≡ Some column → slice_get column j ≡ Some t → table_at c.columns i j ≡ Some t
  table_found i j column t e f = rw (e, f) refl

  goal_at_zero : (t : Table) (a : ℕ) → is_goal_at_zero task t a ≡ true → (abstraction_of task t).is_goal a ≡ true → value_of t a ≡ Finite 0
  goal_at_zero t a e g = zero_distance (value_of t a) (rw g at e)

  falls : (t : Table) (a o : ℕ) (r : Option ℕ) → option_map_or (λ b. is_at_most (value_of t a) (Finite (share_of t.shares o) +ᵈ value_of t b)) r true ≡ true
      → IfSome r (λ b. value_of t a ≤ᵈ Finite (share_of t.shares o) +ᵈ value_of t b)
  falls t a o None e = tt
  falls t a o (Some b) e = is_at_most-true (value_of t a) (Finite (share_of t.shares o) +ᵈ value_of t b) e

  table_is : (i j : ℕ) (t : Table) → table_at c.columns i j ≡ Some t → IsTableOf task (table_of task t)
  table_is i j t e =
      record {
        abstraction = abstracts task well t.mapping (and_parts (is_mapping task t.mapping) _ form).0;
        consistent = record { goals = goals; steps = steps };
      }
    where
      form : has_form task t ≡ true
      form = passes_at (has_form task) (table_at c.columns i j) t e (held (TableForm i j) (omega arith))

      goals : (a : ℕ) → a < (abstraction_of task t).size → (abstraction_of task t).is_goal a ≡ true → value_of t a ≡ Finite 0
      goals a l g = goal_at_zero t a (not_false (is_goal_at_zero task t a) (λ f. held (GoalValue i j a) (omega arith) (rw e (l, f)))) g

      steps : (a o : ℕ) → a < (abstraction_of task t).size → IfSome ((abstraction_of task t).transition a o) (λ b. value_of t a ≤ᵈ Finite (share_of t.shares o) +ᵈ value_of t b)
      steps a o l = falls t a o ((abstraction_of task t).transition a o) (not_false (falls_within_share task t a o) (λ f. held (Fall i j a o) (omega arith) (rw e (l, f))))

  column_is : (i : ℕ) (column : List Table) → slice_get c.columns i ≡ Some column → IsColumn task (map (table_of task) column)
  column_is i column e =
      record {
        tables = All-map (IsTableOf task) (table_of task) column
            (each (λ t. IsTableOf task (table_of task t)) column (λ j t f. table_is i j t (table_found i j column t e f)));
        costs = λ o. rw (column_shares column o) (leb-true _ _ (and_parts _ _ (passes_at (λ d. is_within_cost task d o) (slice_get c.columns i) column e (held (Shares i o) (omega arith)))).0);
      }

  columns_are : All (IsColumn task) (columns_of task c.columns)
  columns_are =
      All-map (IsColumn task) (map (table_of task)) c.columns (each (λ column. IsColumn task (map (table_of task) column)) c.columns column_is)

  listed : (s : List ℕ) (g : ℕ) → is_listed c.closed s g ≡ true → IsListed c.closed s g
  listed s g e =
      let any = Any-from_list_any (λ (x : Entry). pointwise nat_eq x.state s && nat_le x.cost g) c.closed e in
      let parts = and_parts (pointwise nat_eq any.1.state s) (nat_le any.1.cost g) any.4 in
      (any.0, any.1, any.2, any.3, (same_values any.1.state s parts.0, leb-true any.1.cost g parts.1))

  covered : (s : List ℕ) (g : ℕ) → is_covered task c s g ≡ true → IsCovered c.closed (heuristic_of task c.columns) c.bound s g
  covered s g e = go (is_listed c.closed s g) refl (reaches_bound task c s g) refl e
    where
      go : (b : Bool) → is_listed c.closed s g ≡ b → (d : Bool) → reaches_bound task c s g ≡ d → (b || d) ≡ true → IsCovered c.closed (heuristic_of task c.columns) c.bound s g
      go true l d r h = inl (listed s g l)
      go false l true r h = inr (is_at_most-true c.bound (Finite g +ᵈ heuristic_of task c.columns s) r)
      go false l false r h = cc h

  covers : (e : Entry) (o : ℕ) (r : Option (List ℕ)) → option_map_or (λ s. is_covered task c s (e.cost + cost_of task o)) r true ≡ true
      → IfSome r (λ s. IsCovered c.closed (heuristic_of task c.columns) c.bound s (e.cost + cost_of task o))
  covers e o None h = tt
  covers e o (Some s) h = covered s (e.cost + cost_of task o) h

  dear : (e : Entry) → is_dear_if_goal task c e ≡ true → is_goal_state task e.state ≡ true → c.bound ≤ᵈ Finite e.cost
  dear e h g = is_at_most-true c.bound (Finite e.cost) (rw g at h)

  finished : IsFinished task (heuristic_of task c.columns) c.bound c.closed
  finished =
      record {
        states = each (λ e. _) c.closed (λ i e f. is_state_tells (ranges task) e.state
            (and_parts (is_state (ranges task) e.state) (is_behind c.closed i e.state) (passes_at (λ x. is_state (ranges task) x.state && is_behind c.closed i x.state) (slice_get c.closed i) e f (held (ClosedState i) (omega arith)))).0);
        start = covered task.initial 0 (not_false (is_covered task c task.initial 0) (held Start (omega arith)));
        goals = each (λ e. is_goal_state task e.state ≡ true → c.bound ≤ᵈ Finite e.cost) c.closed
            (λ i e f. dear e (passes_at (is_dear_if_goal task c) (slice_get c.closed i) e f (held (ClosedGoal i) (omega arith))));
        successors = each (λ e. CoversSuccessors task c.closed (heuristic_of task c.columns) c.bound e.state e.cost) c.closed
            (λ i e f o. covers e o (step task e.state o) (passes_at (λ x. covers_successor task c x o) (slice_get c.closed i) e f (held (Successor i o) (omega arith))));
      }

  -- every plan of the task that the columns and closed states are for costs at least the bound
  bound_for : EveryPlanCostsAtLeast task c.bound
  bound_for = bound_holds task well (heuristic_of task c.columns) (heuristic_lower task well (columns_of task c.columns) columns_are) c.bound c.closed finished

-- every plan costs at least the bound
pub held_implies_bound : (task : FiniteDomainTask) → IsTask task → (c : CertificateValue) → IsHeld task c → EveryPlanCostsAtLeast task c.bound
held_implies_bound task well c held =
    judged_bound task well c.classes (λ some v. not_false (fits_row task c.classes v) (λ f. held (Classes v) (some, f))) c.bound
    (λ reduced_well. bound_for (judged_task task c.classes) reduced_well c (held_for_judged task c held))
