use Rattle.std.proofs.Common.{◌≡◌, map, take}
use Rattle.cert_value.specs.Views as kept
use Rattle.cert.proofs.tables.copied_column.Given as goal

abbrev pub invariant-loop-table : goal.invariant-loop-table
invariant-loop-table l = map kept.table_of l.copy.items ≡ map (λ t. t.table) (take l.table-index l.column)
