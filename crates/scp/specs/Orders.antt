-- Columns that are chosen for a task, and the orders of mappings from which they are made.
use Rattle.std.specs.Prelude.{ℕ, zero, suc, min, ◌<◌, List, [], ◌∷◌, ◌++◌, length, take, drop}
use Rattle.std.specs.List.{AllZip}
use Rattle.fdr.specs.Tasks.{FiniteDomainTask}
use Rattle.abstraction_mapping.specs.Mappings.{Mapping}
use Rattle.pdb_patterns.specs.Choices.{AreMappings, KeepGoal}
use Rattle.cert_value.specs.Certificates.{Table}
use Rattle.scp_columns.specs.Partitions.{IsMadeFrom}

-- the mappings from index `first` on, and then those before it
abbrev pub order_from : ℕ → List Mapping → List Mapping
order_from first mappings = drop first mappings ++ take first mappings

-- the orders that start at each of the first indices, as many as given
unfoldable pub orders_from : ℕ → List Mapping → List (List Mapping)
orders_from zero mappings = []
orders_from (suc places) mappings = orders_from places mappings ++ order_from places mappings ∷ []

-- At most 64 distinct mappings within the limit, which retain the goal variables if there are fewer than 64, and for
-- each of the first 8 a column made from all of them in cyclic order, starting with that mapping.
pub record AreChosen (task : FiniteDomainTask) (limit : ℕ) (columns : List (List Table)) : Type 0 where
  pub mappings : List Mapping
  pub are_mappings : AreMappings task limit mappings
  pub keep_goal : length mappings < 64 → KeepGoal task limit mappings
  pub made : AllZip (IsMadeFrom task) (orders_from (min 8 (length mappings)) mappings) columns
