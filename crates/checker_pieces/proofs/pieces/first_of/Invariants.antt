use Rattle.std.proofs.Common.{◌≡◌, ℕ, ◌<◌, Some, None, Ok}
use Rattle.std.specs.Prelude.{slice_get}
use Rattle.checker_pieces.proofs.pieces.first_of.Given as goal

abbrev pub invariant-loop-piece : goal.invariant-loop-piece
invariant-loop-piece l = (k : ℕ) → k < l.piece-index → slice_get l.pieces k ≡ Some (Ok None)
