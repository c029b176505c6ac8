-- The columns in memory are the columns that a certificate has.
use Rattle.std.proofs.Common.{◌≡◌, ℕ, List, [], ◌∷◌, map, refl, ap, subst}
use Rattle.std.specs.Prelude.{All, Vec}
use Rattle.std.proofs.Math.Logic.{∥∥₁_elim}
use Rattle.std.specs.Global.{Global}
use Rattle.std.proofs.lemmas.List.Elements.{All-head, All-tail, All-map}
use Rattle.cost.specs.Distances.{Finite, greatest, ◌≤ᵈ◌}
use Rattle.cost.proofs.DistanceLaws.{at_most-prop}
use Rattle.fdr.specs.Tasks.{FiniteDomainTask, ranges, IsTask, IsState, LeadsToGoal, plan_cost}
use Rattle.abstraction.proofs.Bounds.{heuristic_lower}
use Rattle.scp.specs.Partitions.{ColumnsOf}
use Rattle.abstraction.specs.Abstractions as abstraction
use Rattle.abstraction.specs.Columns.{IsColumn, column_value, heuristic}
use Rattle.checker_clauses.specs.Clauses.{table_of, columns_of, heuristic_of}
use Rattle.scp_columns.specs.ColumnTables.{ColumnTable, on_abstraction, tables_of}
use Rattle.scp_columns.proofs.ColumnsSoFar.{IsOf}

abbrev pub AreOf : FiniteDomainTask → Vec ColumnTable Global → Type 0
AreOf task column = All (IsOf task) column.items

-- a column on its abstractions
abbrev pub column_in : Vec ColumnTable Global → List abstraction.Table
column_in column = map on_abstraction column.items

module _ (task : FiniteDomainTask) where
  pub same_tables : (ts : List ColumnTable) → All (IsOf task) ts → map on_abstraction ts ≡ map (table_of task) (map (λ (t : ColumnTable). t.table) ts)
  same_tables [] all = refl
  same_tables (t ∷ ts) all = rw (same_tables ts (All-tail (IsOf task) t ts all)) (ap (λ own. table_of own t.table ∷ map (table_of task) (map (λ (t : ColumnTable). t.table) ts)) (All-head (IsOf task) t ts all))

  pub same_columns : (columns : List (Vec ColumnTable Global)) → All (AreOf task) columns → map column_in columns ≡ columns_of task (map tables_of columns)
  same_columns [] all = refl
  same_columns (c ∷ cs) all = rw (same_tables c.items (All-head (AreOf task) c cs all), same_columns cs (All-tail (AreOf task) c cs all))

  module _ (columns : List (Vec ColumnTable Global)) (all : All (AreOf task) columns) where
    pub same_heuristic : (state : List ℕ) → greatest (map (column_value state) (map column_in columns)) ≡ heuristic_of task (map tables_of columns) state
    same_heuristic state = ap (λ cs. greatest (map (column_value state) cs)) (same_columns columns all)

    pub divided_columns : All (λ column. IsColumn task (column_in column)) columns → All (IsColumn task) (columns_of task (map tables_of columns))
    divided_columns divided = subst (All (IsColumn task)) (same_columns columns all) (All-map (IsColumn task) column_in columns divided)

    pub lower_bound : IsTask task → ∥ All (λ column. IsColumn task (column_in column)) columns ∥₁ → (v : ColumnsOf) → record { task = task; columns = map tables_of columns } ≡ v
        → (state plan : List ℕ) → IsState (ranges v.task) state → LeadsToGoal v.task state plan → heuristic_of v.task v.columns state ≤ᵈ Finite (plan_cost v.task plan)
    lower_bound well divided v e state plan =
        subst (λ (v : ColumnsOf). IsState (ranges v.task) state → LeadsToGoal v.task state plan → heuristic_of v.task v.columns state ≤ᵈ Finite (plan_cost v.task plan)) e
        (λ ok leads. ∥∥₁_elim divided (at_most-prop (heuristic (columns_of task (map tables_of columns)) state) (Finite (plan_cost task plan))) (λ each. heuristic_lower task well (columns_of task (map tables_of columns)) (divided_columns each) plan state ok leads))
