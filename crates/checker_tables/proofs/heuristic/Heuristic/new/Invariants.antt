use Rattle.std.proofs.Common.{◌≡◌, ◌++◌, drop, map, All}
use Rattle.cert_value.specs.Views as kept
use Rattle.checker_tables.specs.MappedTables.{MappedTable, tables_of}
use Rattle.checker_tables.proofs.heuristic.Heuristic.new.Given as goal

abbrev pub invariant-loop-column : goal.invariant-loop-column
invariant-loop-column l =
    record {
      tables : map tables_of l.columns.items ++ kept.columns_of (drop l.column-index l.column-items) ≡ l.certificate.columns;
      task : All (λ column. All (λ (t : MappedTable). t.task ≡ l.task) column.items) l.columns.items;
    }
