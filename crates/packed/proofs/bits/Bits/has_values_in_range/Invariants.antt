use Rattle.std.proofs.Common.{◌<◌, ℕ, get_or}
use Rattle.packed.specs.Fields as spec
use Rattle.packed.proofs.bits.Bits.has_values_in_range.Given as goal

abbrev pub invariant-loop-variable : goal.invariant-loop-variable
invariant-loop-variable g l = (v : ℕ) → v < l.variable → get_or (spec.values_in l.self.words l.layout) v 0 < get_or l.layout v 0
