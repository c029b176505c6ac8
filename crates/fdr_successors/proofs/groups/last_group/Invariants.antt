use Rattle.std.proofs.Common.{◌-◌, ◌<◌, ◌≤◌}
use Rattle.fdr_successors.proofs.groups.last_group.Given as goal

abbrev pub invariant-loop-first : goal.invariant-loop-first
invariant-loop-first l = (l.part.first ≤ l.first) × (l.first < l.part.end)

abbrev pub decreases-loop-first : goal.decreases-loop-first
decreases-loop-first l = l.first - l.part.first
