use Rattle.std.proofs.Common.{◌≡◌, take}
use Rattle.index_rows.proofs.transposing.flattened.Given as goal

abbrev pub invariant-loop-row : goal.invariant-loop-row
invariant-loop-row l = l.flat ≡ take l.row-index l.rows
