use Rattle.std.proofs.Common.{◌≡◌, length, map, take}
use Rattle.optplan_command.proofs.run_translate.sizes_of.Given as goal

abbrev pub invariant-loop-variable : goal.invariant-loop-variable
invariant-loop-variable l = l.sizes.items ≡ map (λ v. length v.places) (take l.variable-index l.variables)
