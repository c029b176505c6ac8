use Rattle.scp_columns.proofs.SparseShares.{AreSharesBelow}
use Rattle.scp_columns.proofs.shares.shares_of.Given as goal

abbrev pub invariant-loop-operator : goal.invariant-loop-operator
invariant-loop-operator l = AreSharesBelow l.needed l.operator l.shares.items
