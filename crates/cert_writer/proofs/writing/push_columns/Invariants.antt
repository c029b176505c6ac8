use Rattle.std.proofs.Common.{◌≡◌, ◌++◌, take}
use Rattle.std.specs.List.{flat_map}
use Rattle.cert_text.specs.Spelling as text
use Rattle.cert_value.specs.Views as view
use Rattle.cert_writer.proofs.writing.push_columns.Given as goal

abbrev pub invariant-loop-column : goal.invariant-loop-column
invariant-loop-column l = l.out.items ≡ l.fn.out.items ++ text.text_of (flat_map text.column_lines (view.columns_of (take l.column-index l.columns)))
