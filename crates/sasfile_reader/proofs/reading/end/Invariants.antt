use Rattle.std.proofs.Common.{◌≡◌, length}
use Rattle.sasfile_reader.specs.Reading.{empty_from}
use Rattle.sasfile_reader.specs.Remains.{remaining}
use Rattle.sasfile_reader.proofs.reading.end.Given as goal

abbrev pub invariant-loop-line : goal.invariant-loop-line
invariant-loop-line l = empty_from l.rest.number (remaining l.rest).lines ≡ empty_from l.lines.number (remaining l.lines).lines

abbrev pub decreases-loop-line : goal.decreases-loop-line
decreases-loop-line l = length l.rest.rest.now
