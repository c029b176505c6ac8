use Rattle.std.proofs.Common.{ℕ, take}
use Rattle.std.specs.Prelude.{◌↔◌, Contains}
use Rattle.abstraction_groups.specs.Indexes.{HasEffectOn}
use Rattle.abstraction_groups.proofs.groups.affecting.Given as goal

abbrev pub invariant-loop-variable : goal.invariant-loop-variable
invariant-loop-variable l = (o : ℕ) → Contains l.operators.items o ↔ ((v : ℕ) × Contains (take l.variable-index l.variables) v × HasEffectOn l.index o v)
