use Rattle.std.proofs.Common.{ℕ, List, ◌≤◌, ◌*◌, ◌^◌, map, take}
use Rattle.cost.specs.Distances.{IsWithin, total}
use Rattle.abstraction.specs.Abstractions.{value_at}
use Rattle.scp_columns.specs.ColumnTables.{on_abstraction}
use Rattle.scp_rows.proofs.limit.column_limit.Given as goal

abbrev pub invariant-loop-table : goal.invariant-loop-table
invariant-loop-table l =
    ((state : List ℕ) → IsWithin l.limit (total (take l.table-index (map (λ t. value_at state (on_abstraction t)) l.column)))) × (l.limit ≤ l.table-index * 2 ^ 55)
