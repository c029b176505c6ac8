use Rattle.std.proofs.Common.{◌≡◌, drop, map}
use Rattle.cost.specs.Distances.{distance_of, is_at_most}
use Rattle.abstraction.specs.Columns.{column_value}
use Rattle.checker_tables.specs.MappedTables.{on_abstraction}
use Rattle.checker_tables.proofs.heuristic.column_reaches.Given as goal

abbrev pub invariant-loop-table : goal.invariant-loop-table
invariant-loop-table l =
    is_at_most (distance_of l.rest) (column_value l.state (map on_abstraction (drop l.table-index l.column)))
    ≡ is_at_most (distance_of l.fn.bound) (column_value l.state (map on_abstraction l.column))
