use Rattle.std.proofs.Common.{◌≡◌}
use Rattle.scp_rows.proofs.RowWords.{top}
use Rattle.scp_rows.proofs.row.LongRowRow.greatest.Given as goal

abbrev pub invariant-loop-lane : goal.invariant-loop-lane
invariant-loop-lane l = l.greatest ≡ top l.self.words l.lane
