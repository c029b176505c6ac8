use Rattle.scp_rows.proofs.RowLists.{AreAdded}
use Rattle.scp_rows.proofs.mapping_rows.add_values.Given as goal

abbrev pub invariant-loop-index : goal.invariant-loop-index
invariant-loop-index g l = AreAdded g.R.Row.words g.R.Row.most l.lane l.fn.rows l.values l.index l.rows
