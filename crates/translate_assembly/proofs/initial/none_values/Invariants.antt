use Rattle.std.proofs.Common.{◌≡◌, length, map, take}
use Rattle.translate_assembly.proofs.initial.none_values.Given as goal

abbrev pub invariant-loop-variable : goal.invariant-loop-variable
invariant-loop-variable l = l.values.items ≡ map (λ v. length v.places) (take l.variable-index l.variables)
