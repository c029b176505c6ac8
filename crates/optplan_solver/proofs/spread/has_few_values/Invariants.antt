use Rattle.std.proofs.Common.{◌≡◌, drop}
use Rattle.std.specs.Prelude.{nat_lt, sum}
use Rattle.fdr.specs.Tasks.{ranges}
use Rattle.optplan_solver.proofs.spread.has_few_values.Given as goal

abbrev pub invariant-loop-variable : goal.invariant-loop-variable
invariant-loop-variable l = nat_lt l.left (sum (drop l.variable (ranges l.task))) ≡ nat_lt 20 (sum (ranges l.task))
