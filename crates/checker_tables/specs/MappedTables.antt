-- Tables that have the required form.
use Rattle.std.specs.Prelude.{◌≡◌, true, List, map, Vec}
use Rattle.std.specs.Global.{Global}
use Rattle.fdr.specs.Tasks.{FiniteDomainTask}
use Rattle.abstraction.specs.Abstractions as abstraction
use Rattle.cert_value.specs.Certificates.{Table}
use Rattle.checker_clauses.specs.Clauses.{has_form, table_of}

-- a table that has the required form for the task
pub record MappedTable : Type 0 where
  pub task : FiniteDomainTask
  pub table : Table
  pub formed : has_form task table ≡ true

-- the table on its abstraction
abbrev pub on_abstraction : MappedTable → abstraction.Table
on_abstraction t = table_of t.task t.table

-- the tables of a column on their abstractions, from their representation in memory
abbrev pub column_of : Vec MappedTable Global → List abstraction.Table
column_of column = map on_abstraction column.items

abbrev pub tables_of : Vec MappedTable Global → List Table
tables_of column = map (λ (t : MappedTable). t.table) column.items

-- the columns of tables and their task
pub record Heuristic : Type 0 where
  pub task : FiniteDomainTask
  pub columns : List (List Table)
