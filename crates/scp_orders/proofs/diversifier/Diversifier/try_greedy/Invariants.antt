use Rattle.std.proofs.Common.{◌-◌}
use Rattle.scp_orders.proofs.diversifier.Diversifier.try_greedy.Given as goal

abbrev pub decreases-loop-first : goal.decreases-loop-first
decreases-loop-first g l = l.most - l.first
