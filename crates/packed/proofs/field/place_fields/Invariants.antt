use Rattle.packed.proofs.Placing.{IsPlacing}
use Rattle.packed.proofs.field.place_fields.Given as goal

abbrev pub invariant-loop-range : goal.invariant-loop-range
invariant-loop-range l = IsPlacing l.ranges l.range-index l.fields.items l.word l.shift
