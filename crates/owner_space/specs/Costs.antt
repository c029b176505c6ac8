-- The least and the greatest cost of the operators of a task.
use Rattle.std.specs.Prelude.{ℕ, zero, suc, min, max, length}
use Rattle.cost.specs.declared.TheConstants.{MAX_COST}
use Rattle.fdr.specs.Tasks.{FiniteDomainTask, cost_of}

-- the least cost of the first `n` operators, the greatest cost there is if `n` is 0
abbrev pub least_of : FiniteDomainTask → ℕ → ℕ
least_of task zero = MAX_COST
least_of task (suc n) = min (least_of task n) (cost_of task n)

-- the greatest cost of the first `n` operators, 0 if `n` is 0
abbrev pub greatest_of : FiniteDomainTask → ℕ → ℕ
greatest_of task zero = 0
greatest_of task (suc n) = max (greatest_of task n) (cost_of task n)

abbrev pub least_cost : FiniteDomainTask → ℕ
least_cost task = least_of task (length task.operators)

abbrev pub greatest_cost : FiniteDomainTask → ℕ
greatest_cost task = greatest_of task (length task.operators)
