-- The orders of mappings from which the columns of a stage are made (saturated cost partitioning, Seipp, Keller and
-- Helmert 2020), and the columns.
use Rattle.std.specs.Prelude.{◌≡◌, List, map, take}
use Rattle.std.specs.List.{AllZip}
use Rattle.fdr.specs.Tasks.{FiniteDomainTask}
use Rattle.abstraction_mapping.specs.Mappings.{Mapping}
use Rattle.cert_value.specs.Certificates.{Table}
use Rattle.scp_columns.specs.Partitions.{IsMadeFrom}
use Rattle.scp.specs.Partitions.{ColumnsOf}
use Rattle.scp_orders.specs.Orders.{AreOrders}

-- columns of the task, made from orders of its mappings: a table for each mapping, one after the other from the
-- remaining costs
pub record AreStageColumns (task : FiniteDomainTask) (columns : ColumnsOf) : Type 0 where
  pub of_task : columns.task ≡ task
  pub orders : List (List Mapping)
  pub are : AreOrders task orders
  pub made : AllZip (IsMadeFrom task) orders columns.columns

-- the mappings of the tables of a column
abbrev pub mappings_in : List Table → List Mapping
mappings_in column = map (λ (t : Table). t.mapping) column

-- the orders of the mappings of the first 8 columns
abbrev pub orders_in : List (List Table) → List (List Mapping)
orders_in columns = take 8 (map mappings_in columns)

-- the orders are those of these columns, and are orders of mappings of the task
pub record AreOrdersOf (task : FiniteDomainTask) (columns : List (List Table)) (orders : List (List Mapping)) : Type 0 where
  pub same : orders ≡ orders_in columns
  pub are : AreOrders task orders
