use Rattle.std.proofs.Common.{◌≡◌}
use Rattle.scp_stages.proofs.taken_over.pool_from.Given as goal

abbrev pub invariant-loop-order : goal.invariant-loop-order
invariant-loop-order l = l.pool.task ≡ l.task
