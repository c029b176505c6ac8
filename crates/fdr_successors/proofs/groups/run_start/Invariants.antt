use Rattle.std.proofs.Common.{◌-◌, ◌≤◌}
use Rattle.fdr_successors.specs.Trees.{IsRun}
use Rattle.fdr_successors.proofs.groups.run_start.Given as goal

abbrev pub invariant-loop-start : goal.invariant-loop-start
invariant-loop-start l =
    (l.group.first ≤ l.start) × IsRun l.facts l.candidates l.part.tested (record { variable = l.group.variable; value = l.value }) l.start l.part.end

abbrev pub decreases-loop-start : goal.decreases-loop-start
decreases-loop-start l = l.start - l.group.first
