-- A column while it is made.
use Rattle.std.proofs.Common.{◌≡◌, ℕ, ◌-◌, ◌<◌, ◌≤◌, ◌^◌, List, [], ◌∷◌, ◌++◌, length, map, refl, sym, ap, ◌∙◌, subst, arith, ⊎_elim}
use Rattle.std.specs.Prelude.{All, slice_index}
use Rattle.std.specs.Option.{option_map_or}
use Rattle.std.proofs.lemmas.Bool.{cases_lt}
use Rattle.std.proofs.lemmas.List.{map-append, get_or_past}
use Rattle.std.proofs.lemmas.List.Elements.{All-nil, All-cons, All-append}
use Rattle.std.proofs.lemmas.Option.{slice_get_past}
use Rattle.fdr.specs.Tasks.{FiniteDomainTask, cost_of, operator_cost}
use Rattle.abstraction_mapping.specs.Mappings.{Mapping}
use Rattle.cert_value.specs.Certificates.{Table}
use Rattle.checker_clauses.specs.Clauses.{table_of, share_of}
use Rattle.pdb_walks.specs.Walks.{HasDistances, IsPartition}
use Rattle.scp_columns.specs.ColumnTables.{ColumnTable}
use Rattle.scp_columns.specs.Partitions.{IsMadeFrom, IsNextTable, left_after}
use Rattle.scp_columns.proofs.Partitions.{partition_longer, left_longer}

-- the table is one of the task
abbrev pub IsOf : FiniteDomainTask → ColumnTable → Type 0
IsOf task t = t.task ≡ task

abbrev pub tables_in : List ColumnTable → List Table
tables_in column = map (λ (t : ColumnTable). t.table) column

-- a table for each of the mappings given, and what they leave of the costs
pub record IsColumnSoFar (task : FiniteDomainTask) (given : List Mapping) (left : List ℕ) (column : List ColumnTable) : Type 0 where
  pub of_task : All (IsOf task) column
  pub made : IsMadeFrom task given (tables_in column)
  pub left_over : (o : ℕ) → slice_index left o ≡ left_after (cost_of task) (map (table_of task) (tables_in column)) o
  pub as_long : length left ≡ length task.operators
  pub small : (o : ℕ) → slice_index left o < 2 ^ 31

module _ (task : FiniteDomainTask) where
  -- no operator, no cost
  cost_past : (o : ℕ) → length task.operators ≤ o → cost_of task o ≡ 0
  cost_past o l = ap (λ r. option_map_or (operator_cost task.metric) r 0) (slice_get_past task.operators o l)

  pub no_table : (costs : List ℕ) → length costs ≡ length task.operators → ((o : ℕ) → o < length task.operators → (slice_index costs o ≡ cost_of task o) × (slice_index costs o < 2 ^ 31))
      → IsColumnSoFar task [] costs []
  no_table costs long are = record {
    of_task = All-nil (IsOf task);
    made = record { mappings = refl; partition = tt };
    left_over = λ o. ⊎_elim (λ (l : o < length task.operators). (are o l).0) (λ (h : length task.operators ≤ o). past o h ∙ sym (cost_past o h)) (cases_lt o (length task.operators));
    as_long = long;
    small = λ o. ⊎_elim (λ (l : o < length task.operators). (are o l).1) (λ (h : length task.operators ≤ o). omega (arith, past o h)) (cases_lt o (length task.operators));
  }
    where
      past : (o : ℕ) → length task.operators ≤ o → slice_index costs o ≡ 0
      past o h = get_or_past costs o 0 (omega (arith, long, h))

  module _ (given : List Mapping) (left : List ℕ) (column : List ColumnTable) (so_far : IsColumnSoFar task given left column)
      (mapping : Mapping) (t : ColumnTable) (of_task : t.task ≡ task) (next : IsNextTable task mapping (λ o. slice_index left o) t.table)
      (rest : List ℕ) (left_is : (o : ℕ) → slice_index rest o ≡ slice_index left o - share_of t.table.shares o) (long : length rest ≡ length left) where
    front : tables_in (column ++ t ∷ []) ≡ tables_in column ++ t.table ∷ []
    front = map-append (λ (u : ColumnTable). u.table) column (t ∷ [])

    on_task : map (table_of task) (tables_in (column ++ t ∷ [])) ≡ map (table_of task) (tables_in column) ++ table_of task t.table ∷ []
    on_task = ap (map (table_of task)) front ∙ map-append (table_of task) (tables_in column) (t.table ∷ [])

    left_over : (λ o. slice_index left o) ≡ left_after (cost_of task) (map (table_of task) (tables_in column))
    left_over k o = so_far.left_over o k

    pub one_table_more : IsColumnSoFar task (given ++ mapping ∷ []) rest (column ++ t ∷ [])
    one_table_more = record {
      of_task = All-append (IsOf task) column (t ∷ []) so_far.of_task (All-cons (IsOf task) t [] of_task (All-nil (IsOf task)));
      made = record {
        mappings = ap (map (λ (u : Table). u.mapping)) front ∙ map-append (λ (u : Table). u.mapping) (tables_in column) (t.table ∷ [])
            ∙ ap (λ ms. ms ++ t.table.mapping ∷ []) so_far.made.mappings ∙ ap (λ m. given ++ m ∷ []) next.mapping;
        partition = subst (IsPartition (cost_of task)) (sym on_task)
            (partition_longer (cost_of task) (map (table_of task) (tables_in column)) (table_of task t.table) so_far.made.partition
            (subst (HasDistances (table_of task t.table)) left_over next.distances) next.saturated);
      };
      left_over = λ o. left_is o ∙ ap (λ n. n - share_of t.table.shares o) (so_far.left_over o)
          ∙ sym (ap (λ ts. left_after (cost_of task) ts o) on_task ∙ left_longer (cost_of task) (map (table_of task) (tables_in column)) (table_of task t.table) o);
      as_long = long ∙ so_far.as_long;
      small = λ o. omega (arith, left_is o, so_far.small o);
    }
