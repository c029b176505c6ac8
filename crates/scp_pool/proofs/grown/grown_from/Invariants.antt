use Rattle.std.proofs.Common.{◌≤◌}
use Rattle.scp_pool.proofs.grown.grown_from.Given as goal

abbrev pub invariant-loop : goal.invariant-loop
invariant-loop l = l.states ≤ l.grower.states
