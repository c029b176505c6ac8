use Rattle.std.proofs.Common.{map, take}
use Rattle.cost.specs.Distances.{total}
use Rattle.abstraction.specs.Abstractions.{value_at}
use Rattle.scp_columns.specs.ColumnTables.{on_abstraction}
use Rattle.scp_rows.specs.Rows.{Gains}
use Rattle.scp_rows.proofs.block.add_column.Given as goal

abbrev pub invariant-loop-table : goal.invariant-loop-table
invariant-loop-table g l =
    Gains l.task g.R.Row.most l.lane (λ state. total (take l.table-index (map (λ t. value_at state (on_abstraction t)) l.column))) l.fn.rows.items l.rows.items
