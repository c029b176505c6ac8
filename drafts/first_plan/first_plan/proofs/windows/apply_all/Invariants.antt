use Rattle.fdr.specs.Tasks.{ranges, IsState}
use Rattle.first_plan.proofs.windows.apply_all.Given as goal

abbrev pub invariant-loop-operator : goal.invariant-loop-operator
invariant-loop-operator l = IsState (ranges l.task) l.state
