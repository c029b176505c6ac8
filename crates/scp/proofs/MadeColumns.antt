-- A column that was made table by table divides the operators' costs.
use Rattle.std.proofs.Common.{◌≡◌, true, List, [], ◌∷◌, length, map, ap, subst, arith}
use Rattle.std.specs.Prelude.{All}
use Rattle.std.proofs.lemmas.Bool.{and_parts}
use Rattle.std.proofs.lemmas.List.{length-map}
use Rattle.std.proofs.lemmas.List.Elements.{All-nil, All-cons, All-head, All-tail}
use Rattle.fdr.specs.Tasks.{FiniteDomainTask, IsTask}
use Rattle.abstraction.specs.Abstractions as abstraction
use Rattle.abstraction.specs.Columns.{IsColumn}
use Rattle.abstraction_mapping.specs.Mappings.{Mapping}
use Rattle.cert_value.specs.Certificates.{Table}
use Rattle.checker_clauses.specs.Clauses.{has_form, table_of}
use Rattle.pdb_walks.proofs.Saturation.{partition_column}
use Rattle.scp_columns.specs.ColumnTables.{ColumnTable, on_abstraction}
use Rattle.scp_columns.specs.Partitions.{IsMadeFrom}
use Rattle.abstraction_mapping.specs.TestedMappings.{abstracts}
use Rattle.scp_columns.proofs.ColumnsSoFar.{IsOf, tables_in}
use Rattle.scp.proofs.SameColumns.{same_tables}

module _ (task : FiniteDomainTask) (well : IsTask task) where
  abbrev Abstracts : abstraction.Table → Type 0
  Abstracts t = abstraction.IsAbstractionOf task t.abstraction

  all_abstract : (column : List ColumnTable) → All (IsOf task) column → All Abstracts (map (table_of task) (tables_in column))
  all_abstract [] of = All-nil Abstracts
  all_abstract (t ∷ ts) of =
      let form = subst (λ own. has_form own t.table ≡ true) (All-head (IsOf task) t ts of) t.formed in
      All-cons Abstracts (table_of task t.table) (map (table_of task) (tables_in ts))
      (abstracts task well t.table.mapping (and_parts _ _ form).0) (all_abstract ts (All-tail (IsOf task) t ts of))

  pub divides_costs : (column : List ColumnTable) (given : List Mapping) → All (IsOf task) column → IsMadeFrom task given (tables_in column) → IsColumn task (map on_abstraction column)
  divides_costs column given of made =
      rw (same_tables task column of) (partition_column task (map (table_of task) (tables_in column)) (all_abstract column of) made.partition)

-- there are as many tables as mappings
pub as_many : (task : FiniteDomainTask) (column : List ColumnTable) (given : List Mapping) → IsMadeFrom task given (tables_in column) → length column ≡ length given
as_many task column given made =
    omega (arith, ap length made.mappings, length-map (tables_in column) (λ (t : Table). t.mapping), length-map column (λ (t : ColumnTable). t.table))
