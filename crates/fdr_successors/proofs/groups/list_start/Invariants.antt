use Rattle.std.proofs.Common.{◌-◌, ◌≤◌}
use Rattle.fdr_successors.proofs.groups.list_start.Given as goal

abbrev pub invariant-loop-start : goal.invariant-loop-start
invariant-loop-start l = (l.part.first ≤ l.start) × (l.start ≤ l.part.end)

abbrev pub decreases-loop-start : goal.decreases-loop-start
decreases-loop-start l = l.start - l.part.first
