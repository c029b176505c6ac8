use Rattle.std.proofs.Common.{◌≡◌, ◌++◌, length}
use Rattle.std.specs.List.{list_all}
use Rattle.cert_text.specs.Pieces.{pieces}
use Rattle.cert_text.specs.Reading.{is_atom_word}
use Rattle.cert_text.specs.Cursors.{left}
use Rattle.cert_value.specs.Views.{atom_of}
use Rattle.cert_text.proofs.parts.atom_words.Given as goal

abbrev pub invariant-loop-word : goal.invariant-loop-word
invariant-loop-word l = (atom_of l.atom ++ left l.rest ≡ pieces 32 l.line) × (list_all is_atom_word (pieces 32 l.line) ≡ list_all is_atom_word (left l.rest))

abbrev pub decreases-loop-word : goal.decreases-loop-word
decreases-loop-word l = length (left l.rest)
