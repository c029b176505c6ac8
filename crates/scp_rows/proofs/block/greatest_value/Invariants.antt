use Rattle.std.proofs.Common.{◌≡◌, take}
use Rattle.scp_rows.specs.Rows.{blocks_value}
use Rattle.scp_rows.proofs.block.greatest_value.Given as goal

abbrev pub invariant-loop-block : goal.invariant-loop-block
invariant-loop-block g l = l.greatest ≡ blocks_value g.R.Row.most l.state (take l.block-index l.blocks)
