use Rattle.std.proofs.Common.{drop}
use Rattle.scp_columns.proofs.TakenShares.{AreTaken}
use Rattle.scp_columns.proofs.costs.take_shares.Given as goal

abbrev pub invariant-loop-share : goal.invariant-loop-share
invariant-loop-share l = AreTaken l.fn.left l.left l.shares (drop l.share-index l.shares)
