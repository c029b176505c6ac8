-- The heuristic is a lower bound.
use Rattle.std.proofs.Common.{◌≡◌, ℕ, true, List, [], ◌∷◌, Some, refl, arith}
use Rattle.std.specs.Prelude.{All, sum_by}
use Rattle.std.proofs.lemmas.List.Elements.{All-head, All-tail}
use Rattle.std.proofs.lemmas.List.Sums.{sum_by-cons}
use Rattle.cost.specs.Distances.{Finite, ◌≤ᵈ◌, ◌+ᵈ◌}
use Rattle.cost.proofs.DistanceLaws.{below_more, sum_below, steps_add, larger_at_most}
use Rattle.fdr.specs.Tasks.{FiniteDomainTask, ranges, IsTask, IsState, LeadsToGoal, step, is_goal_state, plan_cost, cost_of}
use Rattle.abstraction.specs.Abstractions.{Table, value_at}
use Rattle.abstraction.specs.Columns.{IsTableOf, IsColumn, column_value, heuristic}
use Rattle.abstraction.specs.Steps.{at_some, first_step, step_keeps_state}

module _ (task : FiniteDomainTask) where
  -- a step lowers the table's value by no more than its share
  table_step : (t : Table) → IsTableOf task t → (s u : List ℕ) (o : ℕ) → IsState (ranges task) s → step task s o ≡ Some u → value_at s t ≤ᵈ Finite (t.share o) +ᵈ value_at u t
  table_step t ok s u o state e =
      at_some (λ j. value_at s t ≤ᵈ Finite (t.share o) +ᵈ t.value j) _ _
      (at_some (λ v. t.abstraction.transition (t.abstraction.index s) o ≡ Some (t.abstraction.index v)) _ u e (ok.abstraction.steps s o state))
      (ok.consistent.steps (t.abstraction.index s) o (ok.abstraction.indices s state))

  column_step : (column : List Table) → All (IsTableOf task) column → (s u : List ℕ) (o : ℕ) → IsState (ranges task) s → step task s o ≡ Some u → column_value s column ≤ᵈ Finite (sum_by (λ t. t.share o) column) +ᵈ column_value u column
  column_step [] ok s u o state e = omega arith
  column_step (t ∷ ts) ok s u o state e =
      rw (sum_by-cons (λ (t : Table). t.share o) t ts)
      (steps_add (value_at s t) (value_at u t) (column_value s ts) (column_value u ts) (t.share o) (sum_by (λ t. t.share o) ts)
      (table_step t (All-head (IsTableOf task) t ts ok) s u o state e)
      (column_step ts (All-tail (IsTableOf task) t ts ok) s u o state e))

  column_goal : (column : List Table) → All (IsTableOf task) column → (s : List ℕ) → IsState (ranges task) s → is_goal_state task s ≡ true → column_value s column ≡ Finite 0
  column_goal [] ok s state goal = refl
  column_goal (t ∷ ts) ok s state goal =
      let head = All-head (IsTableOf task) t ts ok in
      let here : value_at s t ≡ Finite 0 = head.consistent.goals (t.abstraction.index s) (head.abstraction.indices s state) (head.abstraction.goals s state goal) in
      rw (here, column_goal ts (All-tail (IsTableOf task) t ts ok) s state goal)

  module _ (well : IsTask task) where
    -- a column's value is at most the cost of any plan from the state
    pub column_lower : (column : List Table) → IsColumn task column → (plan s : List ℕ) → IsState (ranges task) s → LeadsToGoal task s plan → column_value s column ≤ᵈ Finite (plan_cost task plan)
    column_lower column ok [] s state leads = rw (column_goal column ok.tables s state leads) (omega arith)
    column_lower column ok (o ∷ plan) s state leads =
        let next = first_step task s o plan leads in
        let after = at_some (IsState (ranges task)) (step task s o) next.0 next.1 (step_keeps_state task well s o state) in
        let rest = column_lower column ok plan next.0 after next.2 in
        let here = column_step column ok.tables s next.0 o state next.1 in
        below_more _ _ _ (sum_below _ _ _ _ here rest) (omega (arith, ok.costs o, sum_by-cons (cost_of task) o plan))

    pub heuristic_lower : (columns : List (List Table)) → All (IsColumn task) columns → (plan s : List ℕ) → IsState (ranges task) s → LeadsToGoal task s plan → heuristic columns s ≤ᵈ Finite (plan_cost task plan)
    heuristic_lower [] ok plan s state leads = omega arith
    heuristic_lower (c ∷ cs) ok plan s state leads =
        larger_at_most (column_value s c) (heuristic cs s) (Finite (plan_cost task plan))
        (column_lower c (All-head (IsColumn task) c cs ok) plan s state leads)
        (heuristic_lower cs (All-tail (IsColumn task) c cs ok) plan s state leads)
