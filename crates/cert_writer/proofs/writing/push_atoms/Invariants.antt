use Rattle.std.proofs.Common.{◌≡◌, ◌++◌, map, take}
use Rattle.cert_text.specs.Spelling as text
use Rattle.cert_value.specs.Views as view
use Rattle.cert_writer.proofs.writing.push_atoms.Given as goal

abbrev pub invariant-loop-atom : goal.invariant-loop-atom
invariant-loop-atom l = l.out.items ≡ l.fn.out.items ++ text.text_of (map view.atom_of (take l.atom-index l.atoms))
