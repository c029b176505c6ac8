use Rattle.std.proofs.Common.{take}
use Rattle.scp_rows.specs.Rows.{IsBlockOf}
use Rattle.scp_rows.proofs.block.make_block.Given as goal

abbrev pub invariant-loop-lane : goal.invariant-loop-lane
invariant-loop-lane g l = IsBlockOf l.task g.R.Row.most (take l.lane l.columns) l.rows.items
