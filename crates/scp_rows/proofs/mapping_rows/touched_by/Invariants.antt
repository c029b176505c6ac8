use Rattle.scp_rows.specs.Moves.{AreTouched}
use Rattle.scp_rows.proofs.mapping_rows.touched_by.Given as goal

abbrev pub invariant-loop-place : goal.invariant-loop-place
invariant-loop-place g l = AreTouched l.mappings l.operator l.place l.touched.items
