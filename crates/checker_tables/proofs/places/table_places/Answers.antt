use Rattle.std.proofs.Common.{arith}
use Rattle.std.proofs.lemmas.List.{length-map}
use Rattle.cert_value.specs.Views as kept
use Rattle.checker_tables.proofs.ListingLaws.{none_listed, all_listed}
use Rattle.checker_tables.proofs.places.table_places.Goals as goal

pub loop-column-init : goal.loop-column-init
loop-column-init c = rw c.new-places.ensures.items (none_listed (kept.columns_of c.args.columns.now))

pub returns : goal.returns
returns c =
    all_listed (kept.columns_of c.args.columns.now) c.loop-column.column 0 c.loop-column.places.items c.loop-column.invariant
    (omega (arith, length-map c.args.columns.now kept.column_of))
