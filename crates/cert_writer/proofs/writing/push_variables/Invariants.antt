use Rattle.std.proofs.Common.{◌≡◌, ◌++◌, map, take}
use Rattle.cert_text.specs.Spelling as text
use Rattle.cert_value.specs.Views as view
use Rattle.cert_writer.proofs.writing.push_variables.Given as goal

abbrev pub invariant-loop-variable : goal.invariant-loop-variable
invariant-loop-variable l = l.out.items ≡ l.fn.out.items ++ text.text_of (map text.variable_line (map view.variable_of (take l.variable-index l.variables)))
