use Rattle.std.proofs.Common.{◌≡◌, ◌-◌}
use Rattle.cert_text.specs.Reading.{repeated, entry_step, closed_at}
use Rattle.cert_text.specs.Cursors.{remaining}
use Rattle.cert_text.proofs.Widths.{AreAsWide}
use Rattle.cert_text.proofs.reading.closed.Given as goal

abbrev pub invariant-loop : goal.invariant-loop
invariant-loop l = AreAsWide l.closed l.closed × (repeated entry_step (l.count - l.counter) l.closed (remaining l.next) ≡ closed_at (remaining l.lines))
