use Rattle.std.proofs.Common.{length}
use Rattle.pdb_regression.proofs.rule.+want_by.Given as goal

abbrev pub decreases-want_by : goal.decreases-want_by
decreases-want_by l = length l.changes.now
