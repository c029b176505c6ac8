use Rattle.std.proofs.Common.{◌<◌, ◌≤◌, length}
use Rattle.checker_pieces.specs.Pieces.{AreStarts}
use Rattle.checker_pieces.proofs.starts.weighed_starts.Given as goal

abbrev pub invariant-loop-place : goal.invariant-loop-place
invariant-loop-place l =
    record {
      some : 0 < length l.starts.items;
      few : length l.starts.items ≤ l.pieces;
      starts : AreStarts (length l.weights) l.starts.items;
    }
