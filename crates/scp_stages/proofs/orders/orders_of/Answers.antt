use Rattle.std.proofs.Common.{◌≡◌, ◌<◌, ◌∙◌, ap, min, length, map, List, arith}
use Rattle.scp.specs.Partitions.{mappings_of}
use Rattle.scp_columns.specs.ColumnTables.{ColumnTable, tables_of}
use Rattle.scp_stages.specs.StageOrders.{mappings_in}
use Rattle.scp_stages.proofs.ColumnOrders.{copied_orders, one_more_order}
use Rattle.scp_stages.proofs.orders.orders_of.Goals as goal

pub loop-number-preserved : goal.loop-number-preserved
loop-number-preserved c =
    let tables = c.tables-tables.result.now in
    let column = c.index-tables-number.result in
    let here = c.in_ok-order_of.ensures ∙ ap (λ (ts : List ColumnTable). mappings_in (map (λ t. t.table) ts)) c.deref.ensures.value in
    let low : c.loop-number.number < length tables = grind (arith, c.loop-number-test.true, c.min-number-end.ensures) in
    ap (map mappings_of) c.in_ok-push.ensures.items
    ∙ one_more_order c.args.columns.now.task c.loop-number.orders.items c.in_ok-order_of.field-0 tables c.loop-number.number column
    low c.index-tables-number.is c.loop-number.invariant here

pub returns : goal.returns
returns c =
    let tables = c.tables-tables.result.now in
    let count : c.loop-number.number ≡ min (length tables) 8 = omega (arith, c.loop-number-test.false, c.loop-number.auto.number-end, c.min-number-end.ensures) in
    copied_orders c.args.columns.now.task c.loop-number.number tables c.args.columns.now.columns (map mappings_of c.loop-number.orders.items)
    c.recall.ensures.partitioned c.tables-tables.ensures count c.loop-number.invariant
