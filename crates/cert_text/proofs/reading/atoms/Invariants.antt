use Rattle.std.proofs.Common.{◌≡◌, ◌≤◌, ◌-◌, length, map}
use Rattle.cert_text.specs.Reading.{repeated, behind, atom_at, atoms_at}
use Rattle.cert_text.specs.Cursors.{remaining}
use Rattle.cert_value.specs.Views as view
use Rattle.cert_text.proofs.reading.atoms.Given as goal

abbrev pub invariant-loop : goal.invariant-loop
invariant-loop l = (length l.atoms.items ≤ l.counter) × (repeated (behind atom_at) (l.count - l.counter) (map view.atom_of l.atoms.items) (remaining l.next) ≡ atoms_at (remaining l.lines))
