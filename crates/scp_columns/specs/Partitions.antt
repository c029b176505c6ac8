-- Columns of tables that are made one after the other from the remaining costs of the operators (saturated cost
-- partitioning, Seipp, Keller and Helmert 2020).
use Rattle.std.specs.Prelude.{◌≡◌, ℕ, ◌-◌, List, [], ◌∷◌, map}
use Rattle.fdr.specs.Tasks.{FiniteDomainTask, cost_of}
use Rattle.abstraction.specs.Abstractions as abstraction
use Rattle.abstraction_mapping.specs.Mappings.{Mapping}
use Rattle.cert_value.specs.Certificates.{Table}
use Rattle.checker_clauses.specs.Clauses.{table_of}
use Rattle.pdb_walks.specs.Walks.{HasDistances, IsSaturated, IsPartition}

-- the column has a table for each of the given mappings, made in order from the remaining costs
pub record IsMadeFrom (task : FiniteDomainTask) (given : List Mapping) (column : List Table) : Type 0 where
  pub mappings : map (λ t. t.mapping) column ≡ given
  pub partition : IsPartition (cost_of task) (map (table_of task) column)

-- the remaining costs after the tables
abbrev pub left_after : (ℕ → ℕ) → List abstraction.Table → ℕ → ℕ
left_after left [] o = left o
left_after left (t ∷ ts) o = left_after (λ q. left q - t.share q) ts o

-- the table is on the abstraction by the mapping, has the distances under the remaining costs, and its shares are the
-- saturated cost function
pub record IsNextTable (task : FiniteDomainTask) (given : Mapping) (left : ℕ → ℕ) (t : Table) : Type 0 where
  pub mapping : t.mapping ≡ given
  pub distances : HasDistances (table_of task t) left
  pub saturated : IsSaturated (table_of task t)
