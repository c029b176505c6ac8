use Rattle.std.proofs.Common.{◌≡◌, map, take}
use Rattle.cert_value.specs.Views as kept
use Rattle.scp_columns.specs.ColumnTables.{tables_of}
use Rattle.cert.proofs.tables.copied_columns.Given as goal

abbrev pub invariant-loop-column : goal.invariant-loop-column
invariant-loop-column l = kept.columns_of l.copy.items ≡ map tables_of (take l.column-index l.columns)
