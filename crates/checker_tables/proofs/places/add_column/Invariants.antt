use Rattle.cert_value.specs.Views as kept
use Rattle.checker_tables.specs.TablePlaces.{IsListingBefore}
use Rattle.checker_tables.proofs.places.add_column.Given as goal

abbrev pub invariant-loop-table : goal.invariant-loop-table
invariant-loop-table l = IsListingBefore (kept.columns_of l.columns) l.column l.table l.places.items
