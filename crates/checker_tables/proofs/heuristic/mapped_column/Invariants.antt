use Rattle.std.proofs.Common.{◌≡◌, ◌++◌, drop, map, All}
use Rattle.cert_value.specs.Views as kept
use Rattle.checker_tables.specs.MappedTables.{MappedTable}
use Rattle.checker_tables.proofs.heuristic.mapped_column.Given as goal

abbrev pub invariant-loop-table : goal.invariant-loop-table
invariant-loop-table l =
    record {
      tables : map (λ (t : MappedTable). t.table) l.made.items ++ map kept.table_of (drop l.table-index l.column) ≡ map kept.table_of l.column;
      task : All (λ (t : MappedTable). t.task ≡ l.task) l.made.items;
    }
