use Rattle.std.proofs.Common.{◌≡◌, drop, map, replicate}
use Rattle.cert_value.specs.Views as kept
use Rattle.checker_tables.specs.ShareSums as spec
use Rattle.checker_tables.proofs.shares.ShareSums.of_column.Given as goal

abbrev pub invariant-loop-place : goal.invariant-loop-place
invariant-loop-place l =
    spec.tally_of l.place l.sums (map kept.table_of (drop l.place l.column))
    ≡ spec.tally_of 0 (record { sums = replicate l.fn.operators 0; tables = replicate l.fn.operators 0 }) (map kept.table_of l.column)
