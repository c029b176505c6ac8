use Rattle.std.proofs.Common.{◌≤◌, take}
use Rattle.std.specs.Prelude.{All, slice_index}
use Rattle.scp_columns.proofs.earlier.are_left.Given as goal

abbrev pub invariant-loop-share : goal.invariant-loop-share
invariant-loop-share l = All (λ s. s.amount ≤ slice_index l.left s.operator) (take l.share-index l.shares)
