use Rattle.std.proofs.Common.{◌≡◌, length}
use Rattle.sasfile_reader.specs.Lines.{words}
use Rattle.sasfile_reader.proofs.pieces.next_word.Given as goal

abbrev pub invariant-loop-rest : goal.invariant-loop-rest
invariant-loop-rest l = words l.rest ≡ words l.line

abbrev pub decreases-loop-rest : goal.decreases-loop-rest
decreases-loop-rest l = length l.rest
