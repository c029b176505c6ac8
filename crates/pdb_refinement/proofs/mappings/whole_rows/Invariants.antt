use Rattle.std.proofs.Common.{◌≡◌, take, map}
use Rattle.pdb_refinement.specs.Classes.{whole_row}
use Rattle.pdb_refinement.proofs.mappings.whole_rows.Given as goal

abbrev pub invariant-loop-variable : goal.invariant-loop-variable
invariant-loop-variable l = l.rows.items ≡ map (whole_row l.task) (take l.variable-index l.pattern)
