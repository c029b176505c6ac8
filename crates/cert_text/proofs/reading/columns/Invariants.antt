use Rattle.std.proofs.Common.{◌≡◌, ◌-◌}
use Rattle.cert_text.specs.Reading.{repeated, behind, column_at, columns_at}
use Rattle.cert_text.specs.Cursors.{remaining}
use Rattle.cert_value.specs.Views as view
use Rattle.cert_text.proofs.reading.columns.Given as goal

abbrev pub invariant-loop : goal.invariant-loop
invariant-loop l = repeated (behind (column_at l.fn.version)) (l.count - l.counter) (view.columns_of l.columns.items) (remaining l.next) ≡ columns_at l.fn.version (remaining l.lines)
