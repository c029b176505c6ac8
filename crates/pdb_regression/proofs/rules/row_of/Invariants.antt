use Rattle.std.proofs.Common.{◌≡◌, take}
use Rattle.abstraction_groups.specs.Changes.{at_digits}
use Rattle.pdb_regression.proofs.rules.row_of.Given as goal

abbrev pub invariant-loop-place : goal.invariant-loop-place
invariant-loop-place l = l.row.items ≡ take l.place (at_digits l.digits l.changes)
