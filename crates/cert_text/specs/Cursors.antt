-- The parts of a line and of a text that remain to be read.
use Rattle.std.specs.Prelude.{ℕ, if◌then◌else◌, List, []}
use Rattle.cert_text.specs.Pieces.{pieces}
use Rattle.cert_text.specs.Reading.{Remaining, Counted}
use Rattle.cert_text.specs.declared.words.Words.{Words}
use Rattle.cert_text.specs.declared.lines.Lines.{Lines}
use Rattle.cert_text.specs.declared.forms.CountedLine.{CountedLine}

-- the words that remain of a line
abbrev pub left : Words → List (List ℕ)
left w = if w.done then [] else pieces 32 w.rest.now

-- the lines that remain of a text
abbrev pub remaining : Lines → Remaining
remaining l = record { number = l.number; lines = pieces 10 l.rest.now }

-- the parts of a line with a count
abbrev pub counted : CountedLine → Counted
counted l = record { first = l.first.now; count = l.count.now; words = left l.words }
