use Rattle.std.proofs.Common.{take}
use Rattle.scp_rows.specs.Moves.{AreMoves}
use Rattle.scp_rows.proofs.moves.moves.Given as goal

abbrev pub invariant-loop-operator : goal.invariant-loop-operator
invariant-loop-operator g l = AreMoves l.mappings (take l.operator l.touches) l.moves.items
