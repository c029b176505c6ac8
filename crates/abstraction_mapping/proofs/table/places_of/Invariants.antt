use Rattle.std.proofs.Common.{◌≡◌, ◌++◌, drop}
use Rattle.abstraction_mapping.proofs.table.places_of.Given as goal

abbrev pub invariant-loop-variable : goal.invariant-loop-variable
invariant-loop-variable l = l.places.items ++ drop l.variable-index l.pattern ≡ l.pattern
