use Rattle.std.proofs.Common.{length}
use Rattle.pdb_regression.proofs.rule.+mask_by.Given as goal

abbrev pub decreases-mask_by : goal.decreases-mask_by
decreases-mask_by l = length l.changes.now
