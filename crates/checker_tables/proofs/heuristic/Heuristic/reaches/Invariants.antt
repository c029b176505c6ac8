use Rattle.std.proofs.Common.{◌≡◌, drop, map}
use Rattle.cost.specs.Distances.{distance_of, is_at_most}
use Rattle.abstraction.specs.Columns.{heuristic}
use Rattle.checker_tables.specs.MappedTables.{column_of}
use Rattle.checker_tables.proofs.heuristic.Heuristic.reaches.Given as goal

abbrev pub invariant-loop-column : goal.invariant-loop-column
invariant-loop-column l =
    is_at_most (distance_of l.rest) (heuristic (map column_of (drop l.column-index l.column-items)) l.state)
    ≡ is_at_most (distance_of l.rest) (heuristic (map column_of l.column-items) l.state)
