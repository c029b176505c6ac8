use Rattle.packed.specs.Fields as spec
use Rattle.packed.proofs.Filling.{HoldsFirst}
use Rattle.packed.proofs.bits.Bits.without_other_bits.Given as goal

abbrev pub invariant-loop-field : goal.invariant-loop-field
invariant-loop-field g l = HoldsFirst g.row.WORDS l.words (spec.fields l.layout) (spec.values_in l.self.words l.layout) l.field-index
