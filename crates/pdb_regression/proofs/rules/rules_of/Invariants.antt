use Rattle.std.proofs.Common.{◌≡◌, take}
use Rattle.pdb_regression.specs.Tables.{rows_of}
use Rattle.pdb_regression.proofs.rules.rules_of.Given as goal

abbrev pub invariant-loop-group : goal.invariant-loop-group
invariant-loop-group l = l.rules.items ≡ take l.group (rows_of l.groups)
