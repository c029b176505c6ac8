use Rattle.std.proofs.Common.{◌≡◌, ◌-◌, map}
use Rattle.cert_text.specs.Reading.{repeated, behind, variable_at, variables_at}
use Rattle.cert_text.specs.Cursors.{remaining}
use Rattle.cert_value.specs.Views as view
use Rattle.cert_text.proofs.reading.variables.Given as goal

abbrev pub invariant-loop : goal.invariant-loop
invariant-loop l = repeated (behind (variable_at l.fn.atoms)) (l.count - l.counter) (map view.variable_of l.variables.items) (remaining l.next) ≡ variables_at l.fn.atoms (remaining l.lines)
