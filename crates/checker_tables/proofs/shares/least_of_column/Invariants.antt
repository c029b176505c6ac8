use Rattle.std.proofs.Common.{◌≡◌, drop, map}
use Rattle.cost.specs.Distances.{distance_of, lesser}
use Rattle.cert_value.specs.Views as kept
use Rattle.checker_tables.specs.ShareSums as spec
use Rattle.checker_tables.proofs.shares.least_of_column.Given as goal

abbrev pub invariant-loop-table : goal.invariant-loop-table
invariant-loop-table l =
    lesser (distance_of l.least) (spec.least_of_column l.count (map kept.table_of (drop l.table-index l.column)))
    ≡ spec.least_of_column l.count (map kept.table_of l.column)
