-- Columns of tables that partition the costs of the operators (saturated cost partitioning, Seipp, Keller and Helmert
-- 2020).
use Rattle.std.specs.Prelude.{◌≡◌, ◌≢◌, ◌≤◌, true, List, [], length, map, All, Vec}
use Rattle.std.specs.List.{AllZip}
use Rattle.std.specs.Global.{Global}
use Rattle.fdr.specs.Tasks.{FiniteDomainTask}
use Rattle.abstraction.specs.Columns.{IsColumn}
use Rattle.abstraction_mapping.specs.Mappings.{Mapping}
use Rattle.abstraction_mapping.specs.Views.{mapping_of}
use Rattle.abstraction_mapping.specs.declared.mapping.Mapping.{Mapping as KeptMapping}
use Rattle.cert_value.specs.declared.certificate.Version.TheVariants.{Two}
use Rattle.cert_value.specs.Certificates.{Table}
use Rattle.cert_value.specs.Lawful.{AreColumns}
use Rattle.checker_clauses.specs.Clauses.{table_of, has_form}
use Rattle.scp_columns.specs.ColumnTables.{ColumnTable, on_abstraction, tables_of}
use Rattle.scp_columns.specs.Partitions.{IsMadeFrom}

-- columns that have a text in a certificate of version 2, whose tables have the required form and partition the costs
-- of the operators
pub record AreCostPartitioned (task : FiniteDomainTask) (columns : List (List Table)) : Type 0 where
  pub lawful : AreColumns Two columns
  pub formed : All (All (λ t. has_form task t ≡ true)) columns
  pub each : All (λ column. IsColumn task (map (table_of task) column)) columns

-- the columns of a task
pub record ColumnsOf : Type 0 where
  pub task : FiniteDomainTask
  pub columns : List (List Table)

-- the mappings of an order, from their representation in memory
abbrev pub mappings_of : {Y : Type 0} → Vec KeptMapping Y → List Mapping
mappings_of order = map mapping_of order.items

-- the column belongs to the task, and has tables made for the mappings of the order
pub record IsColumnFrom {Y : Type 0} (task : FiniteDomainTask) (order : Vec KeptMapping Y) (column : Vec ColumnTable Global) : Type 0 where
  pub of_task : All (λ t. t.task ≡ task) column.items
  pub made : IsMadeFrom task (mappings_of order) (tables_of column)

-- the columns belong to the task, one for each of the orders, of at most 64 tables, and each partitions the costs of
-- the operators
pub record AreColumnsFrom (task : FiniteDomainTask) (given : List (List Mapping)) (columns : List (Vec ColumnTable Global)) : Type 0 where
  pub of_task : All (λ column. All (λ t. t.task ≡ task) column.items) columns
  pub as_many : length columns ≡ length given
  pub none_empty : All (λ column. column.items ≢ []) columns
  pub few : All (λ column. length column.items ≤ 64) columns
  pub divided : All (λ column. IsColumn task (map on_abstraction column.items)) columns
  pub made : AllZip (IsMadeFrom task) given (map tables_of columns)
