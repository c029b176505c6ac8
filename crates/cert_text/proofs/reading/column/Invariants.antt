use Rattle.std.proofs.Common.{◌≡◌, ◌-◌, map}
use Rattle.cert_text.specs.Reading.{repeated, behind, table_at, column_at}
use Rattle.cert_text.specs.Cursors.{remaining}
use Rattle.cert_value.specs.Views as view
use Rattle.cert_text.proofs.reading.column.Given as goal

abbrev pub invariant-loop : goal.invariant-loop
invariant-loop l = repeated (behind (table_at l.fn.version)) (l.count - l.counter) (map view.table_of l.tables.items) (remaining l.next) ≡ column_at l.fn.version (remaining l.lines)
