use Rattle.std.proofs.Common.{◌≡◌, map, take}
use Rattle.cert_value.specs.Views.{variable_of}
use Rattle.optplan_solver.proofs.kinds.copied_variables.Given as goal

abbrev pub invariant-loop-variable : goal.invariant-loop-variable
invariant-loop-variable l = map variable_of l.copies.items ≡ map variable_of (take l.variable-index l.variables)
