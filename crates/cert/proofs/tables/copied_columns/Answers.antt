use Rattle.cert_value.specs.Views as kept
use Rattle.scp_columns.specs.ColumnTables.{tables_of}
use Rattle.cert.proofs.Copies.{one_alike}
use Rattle.cert.proofs.tables.copied_columns.Goals as goal

pub loop-column-preserved : goal.loop-column-preserved
loop-column-preserved c =
    rw c.in_ok-push.ensures.items
    (one_alike kept.column_of tables_of c.args.columns.now c.loop-column.column-index c.column-item.result c.loop-column-test.true c.column-item.is
    c.loop-column.copy.items c.in_ok-copied_column.field-0 (rw c.deref.ensures.value at c.in_ok-copied_column.ensures) c.loop-column.invariant)
