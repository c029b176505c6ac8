use Rattle.std.proofs.Common.{◌≡◌, map, take}
use Rattle.cert_value.specs.Views.{variable_of}
use Rattle.checker.specs.Naming.{listed}
use Rattle.checker.proofs.naming.listed_variables.Given as goal

abbrev pub invariant-loop-variable : goal.invariant-loop-variable
invariant-loop-variable l = l.listed.items ≡ map (λ v. listed (variable_of v)) (take l.variable-index l.variables)
