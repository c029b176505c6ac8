use Rattle.std.proofs.Common.{◌≡◌, take}
use Rattle.std.specs.Prelude.{All}
use Rattle.scp_rows.specs.Moves.{IsMove, places_of}
use Rattle.scp_rows.proofs.moves.moves_of.Given as goal

abbrev pub invariant-loop-place : goal.invariant-loop-place
invariant-loop-place g l = (places_of l.moves.items ≡ take l.place-index l.touched) × All (IsMove l.mappings l.operator) l.moves.items
