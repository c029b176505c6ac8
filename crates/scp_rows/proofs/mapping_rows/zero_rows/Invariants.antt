use Rattle.std.proofs.Common.{◌≡◌, ℕ, length, map}
use Rattle.scp_rows.specs.Rows.{word_in}
use Rattle.scp_rows.proofs.mapping_rows.zero_rows.Given as goal

abbrev pub invariant-loop-index : goal.invariant-loop-index
invariant-loop-index g l = (length l.rows.items ≡ l.index) × ((i lane : ℕ) → word_in (map g.R.Row.words l.rows.items) i lane ≡ 0)
