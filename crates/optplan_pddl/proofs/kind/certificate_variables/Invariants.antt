use Rattle.std.proofs.Common.{◌≡◌, map, take}
use Rattle.cert_value.specs.Views.{variable_of}
use Rattle.optplan_pddl.specs.Kinds.{listing}
use Rattle.optplan_pddl.proofs.kind.certificate_variables.Given as goal

abbrev pub invariant-loop-variable : goal.invariant-loop-variable
invariant-loop-variable l = map variable_of l.kept.items ≡ map listing (take l.variable-index l.variables)
