use Rattle.std.proofs.Common.{ℕ, ◌<◌, get_or}
use Rattle.fdr.specs.Tasks.{Operator, IsOperator}
use Rattle.testing_tasks.proofs.are_operators.Given as goal

abbrev pub invariant-loop-operator : goal.invariant-loop-operator
invariant-loop-operator l = (k : ℕ) (d : Operator) → k < l.operator-index → IsOperator l.ranges (get_or l.operators k d)
