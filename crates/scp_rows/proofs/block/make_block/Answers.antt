use Rattle.scp_rows.proofs.Blocks.{next_lane}
use Rattle.scp_rows.proofs.block.make_block.Goals as goal

pub loop-lane-preserved : goal.loop-lane-preserved
loop-lane-preserved g c =
    next_lane c.args.task.now g.R.Row.most c.loop-lane.lane c.args.columns.now c.index-columns-lane.result c.deref.result.now
    c.loop-lane.rows.items c.add_column.new.rows.items c.loop-lane-test.true c.index-columns-lane.is c.deref.ensures.value
    c.loop-lane.invariant c.in_ok-add_column.ensures
