use Rattle.std.proofs.Common.{◌-◌, length}
use Rattle.scp_rows.proofs.Blocks.{AreBlocksSoFar}
use Rattle.scp_rows.proofs.block.make_blocks.Given as goal

abbrev pub invariant-loop-first : goal.invariant-loop-first
invariant-loop-first g l = AreBlocksSoFar l.task g.R.Row.most l.columns l.first l.blocks.items

abbrev pub decreases-loop-first : goal.decreases-loop-first
decreases-loop-first g l = length l.columns - l.first
