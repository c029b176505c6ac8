use Rattle.fdr.specs.Tasks.{ranges}
use Rattle.reduction.proofs.ClassRows.{AreRows}
use Rattle.reduction.proofs.rows.rows_by.Given as goal

abbrev pub invariant-loop-variable : goal.invariant-loop-variable
invariant-loop-variable l = AreRows (ranges l.task) l.asked l.variable l.rows.items
