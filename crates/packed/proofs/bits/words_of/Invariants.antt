use Rattle.packed.specs.Fields as spec
use Rattle.packed.proofs.Filling.{HoldsFirst}
use Rattle.packed.proofs.bits.words_of.Given as goal

abbrev pub invariant-loop-variable : goal.invariant-loop-variable
invariant-loop-variable g l = HoldsFirst g.row.WORDS l.words (spec.fields l.layout) l.state l.variable
