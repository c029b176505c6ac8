use Rattle.std.proofs.Common.{length}
use Rattle.pdb_regression.proofs.rule.+taken_by.Given as goal

abbrev pub decreases-taken_by : goal.decreases-taken_by
decreases-taken_by l = length l.changes.now
