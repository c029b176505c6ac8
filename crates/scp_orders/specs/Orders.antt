-- Orders of mappings from which columns are made (greedy orders and diversification: Seipp, Keller and Helmert 2020).
use Rattle.std.specs.Prelude.{◌≢◌, ℕ, ◌≤◌, ◌^◌, List, [], length, map, All, AllPairs, Contains, Vec}
use Rattle.fdr.specs.Tasks.{FiniteDomainTask}
use Rattle.abstraction_mapping.specs.Mappings.{Mapping}
use Rattle.abstraction_mapping.specs.Views.{mapping_of}
use Rattle.abstraction_mapping.specs.declared.mapping.Mapping.{Mapping as KeptMapping}
use Rattle.pdb_patterns.specs.Choices.{IsMappingWithin}

-- the greatest number of tables of a column, and of columns
abbrev pub max_tables : ℕ
max_tables = 64

abbrev pub max_columns : ℕ
max_columns = 8

-- an order of mappings of the task from which a column can be made: not empty, at most 64 of them
pub record IsOrder (task : FiniteDomainTask) (order : List Mapping) : Type 0 where
  pub each : All (IsMappingWithin task (2 ^ 24)) order
  pub some : order ≢ []
  pub few : length order ≤ max_tables

-- orders for at most 8 columns
pub record AreOrders (task : FiniteDomainTask) (orders : List (List Mapping)) : Type 0 where
  pub each : All (IsOrder task) orders
  pub few : length orders ≤ max_columns

-- an order of mappings of the pool, none of them twice
pub record IsChoice (pool order : List Mapping) : Type 0 where
  pub given : All (Contains pool) order
  pub distinct : AllPairs (λ m n. m ≢ n) order

-- the mappings of an order, from their representation in memory
abbrev pub mappings_of : {Y : Type 0} → Vec KeptMapping Y → List Mapping
mappings_of order = map mapping_of order.items
