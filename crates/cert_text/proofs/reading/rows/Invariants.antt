use Rattle.std.proofs.Common.{◌≡◌, ◌-◌}
use Rattle.cert_text.specs.Pieces.{pieces}
use Rattle.cert_text.specs.Reading.{repeated, next_variable, row_step, rows_at}
use Rattle.cert_text.specs.Cursors.{remaining}
use Rattle.cert_text.proofs.reading.rows.Given as goal

abbrev pub invariant-loop : goal.invariant-loop
invariant-loop l =
    record {
      least : l.least ≡ next_variable l.rows.items;
      read : repeated row_step (l.count - l.counter) l.rows.items (remaining l.next) ≡ rows_at l.fn.number (pieces 32 l.fn.line) (remaining l.fn.lines);
    }
