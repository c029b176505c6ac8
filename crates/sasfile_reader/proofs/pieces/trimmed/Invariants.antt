use Rattle.std.proofs.Common.{◌≡◌, ◌≤◌, length, take}
use Rattle.sasfile_reader.specs.Lines.{trimmed}
use Rattle.sasfile_reader.proofs.pieces.trimmed.Given as goal

abbrev pub invariant-loop-end : goal.invariant-loop-end
invariant-loop-end l = (l.end ≤ length l.line) × (trimmed (take l.end l.line) ≡ trimmed l.line)

abbrev pub decreases-loop-end : goal.decreases-loop-end
decreases-loop-end l = l.end
