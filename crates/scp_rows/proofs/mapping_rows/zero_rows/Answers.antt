use Rattle.std.proofs.Common.{◌∷◌, [], arith, length-append}
use Rattle.scp_rows.proofs.RowLists.{zero_more}
use Rattle.scp_rows.proofs.mapping_rows.zero_rows.Goals as goal

pub loop-index-preserved : goal.loop-index-preserved
loop-index-preserved g c =
    rw c.in_ok-push.ensures.items (
      omega (arith, c.loop-index.invariant.0, length-append c.loop-index.rows.items (c.zero.result ∷ [])),
      zero_more g.R.Row.words c.loop-index.rows.items c.zero.result c.zero.ensures c.loop-index.invariant.1,
    )
