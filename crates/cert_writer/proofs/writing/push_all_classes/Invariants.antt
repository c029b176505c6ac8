use Rattle.std.proofs.Common.{◌≡◌, ◌++◌, map, take}
use Rattle.abstraction_domain.specs.Rows.{classes_in}
use Rattle.cert_text.specs.Spelling as text
use Rattle.cert_writer.proofs.writing.push_all_classes.Given as goal

abbrev pub invariant-loop-row : goal.invariant-loop-row
invariant-loop-row l = l.out.items ≡ l.fn.out.items ++ text.text_of (map text.classes_line (classes_in (take l.row-index l.rows)))
