use Rattle.std.proofs.Common.{◌≡◌, map, take}
use Rattle.scp.specs.Partitions.{mappings_of}
use Rattle.scp_columns.specs.ColumnTables.{tables_of}
use Rattle.scp_stages.specs.StageOrders.{mappings_in}
use Rattle.scp_stages.proofs.orders.orders_of.Given as goal

abbrev pub invariant-loop-number : goal.invariant-loop-number
invariant-loop-number l = map mappings_of l.orders.items ≡ map (λ column. mappings_in (tables_of column)) (take l.number l.tables)
