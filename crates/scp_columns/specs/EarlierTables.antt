-- Tables of a column, with the remaining costs before each.
use Rattle.std.specs.Prelude.{◌≡◌, ℕ, List, Vec, length, slice_index}
use Rattle.std.specs.Global.{Global}
use Rattle.fdr.specs.Tasks.{FiniteDomainTask}
use Rattle.cert_value.specs.Certificates.{Table}
use Rattle.checker_clauses.specs.Clauses.{table_of}
use Rattle.pdb_walks.specs.Walks.{HasDistances, IsSaturated}
use Rattle.scp_columns.specs.ColumnTables.{ColumnTable}

-- an earlier column of the task
pub record EarlierOf : Type 0 where
  pub task : FiniteDomainTask
  pub tables : List Table

-- the table is one of the task, with the distances under these costs of its operators, and its shares are saturated
pub record IsMadeUnder (task : FiniteDomainTask) (t : ColumnTable) (costs : Vec ℕ Global) : Type 0 where
  pub of_task : t.task ≡ task
  pub as_long : length costs.items ≡ length task.operators
  pub distances : HasDistances (table_of task t.table) (λ o. slice_index costs.items o)
  pub saturated : IsSaturated (table_of task t.table)
