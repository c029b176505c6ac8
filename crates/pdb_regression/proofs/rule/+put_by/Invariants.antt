use Rattle.std.proofs.Common.{length}
use Rattle.pdb_regression.proofs.rule.+put_by.Given as goal

abbrev pub decreases-put_by : goal.decreases-put_by
decreases-put_by l = length l.changes.now
