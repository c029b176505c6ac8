use Rattle.std.proofs.Common.{ℕ, List, ◌≤◌, ◌^◌, take}
use Rattle.std.specs.Prelude.{All}
use Rattle.cost.specs.Distances.{IsWithin}
use Rattle.scp_rows.specs.Rows.{value_of}
use Rattle.scp_rows.proofs.limit.columns_limit.Given as goal

abbrev pub invariant-loop-column : goal.invariant-loop-column
invariant-loop-column l = ((state : List ℕ) → All (λ column. IsWithin l.limit (value_of state column)) (take l.column-index l.columns)) × (l.limit ≤ 2 ^ 61)
