-- Tables of columns.
use Rattle.std.specs.Prelude.{◌≡◌, true, List, map, Vec}
use Rattle.std.specs.Global.{Global}
use Rattle.fdr.specs.Tasks.{FiniteDomainTask}
use Rattle.abstraction.specs.Abstractions as abstraction
use Rattle.cert_value.specs.declared.certificate.Version.TheVariants.{Two}
use Rattle.cert_value.specs.Certificates.{Table}
use Rattle.checker_clauses.specs.Clauses.{has_form, table_of}
use Rattle.cert_value.specs.Lawful.{IsTable}

-- a table that has the form required for the task and that has a text in a certificate of version 2
pub record ColumnTable : Type 0 where
  pub task : FiniteDomainTask
  pub table : Table
  pub formed : has_form task table ≡ true
  pub lawful : ∥ IsTable Two table ∥₁

-- the table on its abstraction
abbrev pub on_abstraction : ColumnTable → abstraction.Table
on_abstraction t = table_of t.task t.table

-- the tables of a column, from their representation in memory
abbrev pub tables_of : Vec ColumnTable Global → List Table
tables_of column = map (λ (t : ColumnTable). t.table) column.items
