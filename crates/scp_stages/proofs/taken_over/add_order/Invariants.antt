use Rattle.std.proofs.Common.{◌≡◌}
use Rattle.scp_stages.proofs.taken_over.add_order.Given as goal

abbrev pub invariant-loop-mapping : goal.invariant-loop-mapping
invariant-loop-mapping l = l.pool.task ≡ l.initial.pool.task
