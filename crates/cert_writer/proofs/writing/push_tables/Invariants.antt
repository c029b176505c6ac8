use Rattle.std.proofs.Common.{◌≡◌, ◌++◌, map, take}
use Rattle.std.specs.List.{flat_map}
use Rattle.cert_text.specs.Spelling as text
use Rattle.cert_value.specs.Views as view
use Rattle.cert_writer.proofs.writing.push_tables.Given as goal

abbrev pub invariant-loop-table : goal.invariant-loop-table
invariant-loop-table l = l.out.items ≡ l.fn.out.items ++ text.text_of (flat_map text.table_lines (map view.table_of (take l.table-index l.tables)))
