use Rattle.std.proofs.Common.{◌≡◌, take}
use Rattle.scp_columns.proofs.table.copied_values.Given as goal

abbrev pub invariant-loop-state : goal.invariant-loop-state
invariant-loop-state l = l.copy ≡ take l.state l.values
