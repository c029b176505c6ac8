use Rattle.std.proofs.Common.{arith}
use Rattle.std.proofs.lemmas.List.{length-map}
use Rattle.cert_value.specs.Views as kept
use Rattle.checker_tables.proofs.ColumnLaws.{column_in}
use Rattle.checker_tables.proofs.ListingLaws.{one_listed, column_listed}
use Rattle.checker_tables.proofs.places.add_column.Goals as goal

pub loop-table-preserved : goal.loop-table-preserved
loop-table-preserved c =
    rw c.in_ok-push.ensures.items (one_listed (kept.columns_of c.args.columns.now) c.args.column c.loop-table.table c.loop-table.places.items c.loop-table.invariant)

pub returns : goal.returns
returns c =
    column_listed (kept.columns_of c.args.columns.now) c.args.column c.loop-table.table c.loop-table.places.items c.loop-table.invariant (kept.column_of c.index-columns-column.result)
    (column_in c.args.columns.now c.args.column c.index-columns-column.result c.requires.column c.index-columns-column.is)
    (omega (arith, c.len-table-end.ensures, length-map c.index-columns-column.result.items kept.table_of))
