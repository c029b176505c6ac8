use Rattle.std.proofs.Common.{◌+◌, map, take}
use Rattle.cost.specs.Distances.{total}
use Rattle.abstraction.specs.Abstractions.{value_at}
use Rattle.abstraction.specs.Columns.{column_value}
use Rattle.scp_columns.specs.ColumnTables.{on_abstraction}
use Rattle.scp_rows.proofs.Values.{total_with, whole_total}
use Rattle.scp_rows.proofs.Blocks.{gains_nothing, gains_more, gains_same}
use Rattle.scp_rows.proofs.block.add_column.Goals as goal

pub loop-table-init : goal.loop-table-init
loop-table-init g c = gains_nothing c.args.task.now g.R.Row.most c.args.lane c.args.rows.now.items c.requires.of_task

pub loop-table-preserved : goal.loop-table-preserved
loop-table-preserved g c =
    let i = c.loop-table.table-index in
    let column = c.args.column.now in
    gains_more c.args.task.now g.R.Row.most c.args.lane
    (λ state. total (take i (map (λ t. value_at state (on_abstraction t)) column))) (λ state. value_at state (on_abstraction c.table-item.result))
    (λ state. total (take (i + 1) (map (λ t. value_at state (on_abstraction t)) column)))
    c.args.rows.now.items c.loop-table.rows.items c.add_table.new.rows.items
    (λ state. total_with (λ t. value_at state (on_abstraction t)) column i c.table-item.result c.loop-table-test.true c.table-item.is)
    c.loop-table.invariant c.in_ok-add_table.ensures

pub returns : goal.returns
returns g c =
    let i = c.loop-table.table-index in
    let column = c.args.column.now in
    gains_same c.args.task.now g.R.Row.most c.args.lane
    (λ state. total (take i (map (λ t. value_at state (on_abstraction t)) column))) (λ state. column_value state (map on_abstraction column))
    c.args.rows.now.items c.loop-table.rows.items
    (λ state. whole_total (value_at state) on_abstraction column i c.loop-table-test.false)
    c.loop-table.invariant
