-- Columns: tables that partition the cost of each operator, so that their values may be added (Seipp, Keller and
-- Helmert 2020).
use Rattle.std.specs.Prelude.{ℕ, ◌≤◌, List, map, sum_by, All}
use Rattle.cost.specs.Distances.{Distance, total, greatest}
use Rattle.fdr.specs.Tasks.{FiniteDomainTask, cost_of}
use Rattle.abstraction.specs.Abstractions.{Table, IsAbstractionOf, IsConsistent, value_at}

-- for each operator the sum of its shares is at most its cost
abbrev pub IsWithinCosts : FiniteDomainTask → List Table → Type 0
IsWithinCosts task column = (o : ℕ) → sum_by (λ t. t.share o) column ≤ cost_of task o

-- a consistent table of an abstraction of the task
pub record IsTableOf (task : FiniteDomainTask) (t : Table) : Type 0 where
  pub abstraction : IsAbstractionOf task t.abstraction
  pub consistent : IsConsistent t

pub record IsColumn (task : FiniteDomainTask) (column : List Table) : Type 0 where
  pub tables : All (IsTableOf task) column
  pub costs : IsWithinCosts task column

-- the sum of the values of the tables at the state
abbrev pub column_value : List ℕ → List Table → Distance
column_value state column = total (map (value_at state) column)

-- the greatest value of the columns, and 0 if there is none
abbrev pub heuristic : List (List Table) → List ℕ → Distance
heuristic columns state = greatest (map (column_value state) columns)
