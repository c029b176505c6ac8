use Rattle.std.proofs.Common.{◌≤◌, ◌+◌, length, arith}
use Rattle.std.proofs.lemmas.Grind.{common_steps}
use Rattle.scp_rows.proofs.Blocks.{one_block}
use Rattle.scp_rows.proofs.block.make_blocks.Goals as goal

pub loop-first-preserved : goal.loop-first-preserved
loop-first-preserved g c =
    let low : c.loop-first.first ≤ c.min-end.result = grind (arith, common_steps) in
    let high : c.min-end.result ≤ length c.args.columns.now = grind (arith, common_steps) in
    let short : c.min-end.result ≤ c.loop-first.first + 8 = grind (arith, common_steps) in
    rw c.in_ok-push.ensures.items
    (one_block c.args.task.now g.R.Row.most c.args.columns.now c.loop-first.first c.min-end.result c.loop-first.blocks.items c.in_ok-make_block.field-0
    c.loop-first.invariant low high short c.in_ok-make_block.ensures)
