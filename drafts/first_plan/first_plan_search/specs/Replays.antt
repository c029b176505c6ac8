-- Plans that were run.
use Rattle.std.specs.Prelude.{◌≡◌, ℕ, ◌^◌, ◌≤◌, List, Option, Some, None}
use Rattle.fdr.specs.Tasks.{FiniteDomainTask, IsPlan, plan_cost}

-- the operators are a plan of this cost, which is at most 2^62
pub record IsPlanOf (task : FiniteDomainTask) (operators : List ℕ) (cost : ℕ) : Type 0 where
  pub plan : IsPlan task operators
  pub cost_is : cost ≡ plan_cost task operators
  pub small : cost ≤ 2 ^ 62

-- the result of running operators from the initial state: the cost of the plan that they are, or none if they are no
-- plan or one that costs more than 2^62
abbrev pub IsReplayed : FiniteDomainTask → List ℕ → Option ℕ → Type 0
IsReplayed task operators None = IsPlan task operators → plan_cost task operators ≤ 2 ^ 62 → ⊥
IsReplayed task operators (Some cost) = IsPlanOf task operators cost
