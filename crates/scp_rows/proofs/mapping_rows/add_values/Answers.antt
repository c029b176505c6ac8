use Rattle.std.proofs.Common.{arith}
use Rattle.scp_rows.proofs.RowLists.{one_more}
use Rattle.scp_rows.proofs.mapping_rows.add_values.Goals as goal

pub loop-index-preserved : goal.loop-index-preserved
loop-index-preserved g c =
    one_more g.R.Row.words g.R.Row.most c.args.lane c.args.rows.now c.args.values.now c.loop-index.index c.loop-index.rows c.loop-index.invariant
    (omega arith) c.add_value.new.self c.index-rows-index.result c.get.result c.get.ensures c.add_value.ensures.lane c.add_value.ensures.others
