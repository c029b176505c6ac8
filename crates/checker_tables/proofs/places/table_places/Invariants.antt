use Rattle.cert_value.specs.Views as kept
use Rattle.checker_tables.specs.TablePlaces.{IsListingBefore}
use Rattle.checker_tables.proofs.places.table_places.Given as goal

abbrev pub invariant-loop-column : goal.invariant-loop-column
invariant-loop-column l = IsListingBefore (kept.columns_of l.columns) l.column 0 l.places.items
