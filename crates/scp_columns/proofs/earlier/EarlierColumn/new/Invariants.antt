use Rattle.std.proofs.Common.{◌≡◌, drop, length, map, take}
use Rattle.std.specs.Prelude.{slice_index}
use Rattle.std.specs.List.{AllZip}
use Rattle.checker_clauses.specs.Clauses.{table_of}
use Rattle.pdb_walks.specs.Walks.{IsPartition}
use Rattle.scp_columns.proofs.ColumnsSoFar.{tables_in}
use Rattle.scp_columns.specs.EarlierTables.{IsMadeUnder}
use Rattle.scp_columns.proofs.earlier.EarlierColumn.new.Given as goal

abbrev pub invariant-loop-table : goal.invariant-loop-table
invariant-loop-table l =
    record {
      made : AllZip (IsMadeUnder l.task) (take l.table-index l.tables) l.costs.items;
      rest : IsPartition (λ o. slice_index l.left.items o) (map (table_of l.task) (tables_in (drop l.table-index l.tables)));
      as_long : length l.left.items ≡ length l.task.operators;
    }
