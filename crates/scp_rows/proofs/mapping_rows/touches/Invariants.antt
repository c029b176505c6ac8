use Rattle.scp_rows.specs.Moves.{AreTouches}
use Rattle.scp_rows.proofs.mapping_rows.touches.Given as goal

abbrev pub invariant-loop-operator : goal.invariant-loop-operator
invariant-loop-operator g l = AreTouches l.operator l.mappings l.touches.items
