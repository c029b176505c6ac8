use Rattle.std.proofs.Common.{length}
use Rattle.pdb_regression.proofs.rule.+add_free.Given as goal

abbrev pub decreases-add_free : goal.decreases-add_free
decreases-add_free l = length l.changes.now
