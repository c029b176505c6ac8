-- What is kept of columns says that they are a cost partitioning with a text, and that their values are small.
use Rattle.std.proofs.Common.{◌≡◌, ◌≢◌, ℕ, zero, suc, ◌+◌, ◌*◌, ◌≤◌, ◌^◌, true, List, [], ◌∷◌, length, map, refl, subst, arith}
use Rattle.std.specs.Prelude.{All, Vec, slice_index_or}
use Rattle.std.specs.Global.{Global}
use Rattle.std.specs.List.{AllByRecursion}
use Rattle.std.proofs.Math.Logic.{∥∥₁_elim, ∥∥₁_map}
use Rattle.std.proofs.lemmas.List.{length-map}
use Rattle.std.proofs.lemmas.List.Elements.{All-nil, All-cons, All-head, All-tail}
use Rattle.cost.specs.Distances.{Distance, Finite, Infinite, ◌+ᵈ◌, larger, IsWithin}
use Rattle.fdr.specs.Tasks.{FiniteDomainTask}
use Rattle.abstraction.specs.Abstractions.{value_at}
use Rattle.abstraction.specs.Columns as spec
use Rattle.cert_value.specs.declared.certificate.Version.TheVariants.{Two}
use Rattle.cert_value.specs.Certificates.{Table}
use Rattle.checker_clauses.specs.Clauses.{has_form, table_of, heuristic_of}
use Rattle.cert_value.specs.Lawful.{IsTable, IsColumn, AreColumns}
use Rattle.scp_columns.specs.ColumnTables.{ColumnTable, tables_of}
use Rattle.scp_columns.specs.TableProps.{table_prop}
use Rattle.scp_columns.proofs.ColumnsSoFar.{IsOf, tables_in}
use Rattle.scp.specs.Partitions.{AreCostPartitioned, ColumnsOf}
use Rattle.scp.proofs.SameColumns.{AreOf, column_in, divided_columns}
use Rattle.scp.proofs.ChosenMappings.{from_map}

-- ---- values

within_more : (m n : ℕ) (d : Distance) → m ≤ n → IsWithin m d → IsWithin n d
within_more m n Infinite l h = tt
within_more m n (Finite k) l h = omega (arith, l, h)

sum_within : (m n : ℕ) (d e : Distance) → IsWithin m d → IsWithin n e → IsWithin (m + n) (d +ᵈ e)
sum_within m n Infinite e h k = tt
sum_within m n (Finite i) Infinite h k = tt
sum_within m n (Finite i) (Finite j) h k = omega (arith, h, k)

larger_within : (n : ℕ) (d e : Distance) → IsWithin n d → IsWithin n e → IsWithin n (larger d e)
larger_within n Infinite e h k = tt
larger_within n (Finite i) Infinite h k = tt
larger_within n (Finite i) (Finite j) h k = omega (arith, h, k)

value_within : (n : ℕ) (values : List Distance) (a : ℕ) → AllByRecursion (IsWithin n) values → IsWithin n (slice_index_or values a Infinite)
value_within n [] a all = tt
value_within n (d ∷ values) zero all = all.0
value_within n (d ∷ values) (suc a) all = value_within n values a all.1

module _ (task : FiniteDomainTask) (state : List ℕ) where
  column_within : (column : List Table) → AllByRecursion (IsTable Two) column → IsWithin (length column * 2 ^ 55) (spec.column_value state (map (table_of task) column))
  column_within [] all = omega arith
  column_within (t ∷ ts) all =
      within_more (2 ^ 55 + length ts * 2 ^ 55) (length (t ∷ ts) * 2 ^ 55) _ (omega arith)
      (sum_within (2 ^ 55) (length ts * 2 ^ 55) (value_at state (table_of task t)) (spec.column_value state (map (table_of task) ts))
      (value_within (2 ^ 55) t.values _ all.0.values.each) (column_within ts all.1))

  columns_within : (columns : List (List Table)) → AllByRecursion (IsColumn Two) columns → IsWithin (2 ^ 61) (heuristic_of task columns state)
  columns_within [] all = omega arith
  columns_within (c ∷ cs) all =
      larger_within (2 ^ 61) (spec.column_value state (map (table_of task) c)) (heuristic_of task cs state)
      (within_more (length c * 2 ^ 55) (2 ^ 61) _ (omega (arith, all.0.few)) (column_within c all.0.tables)) (columns_within cs all.1)

-- each value is infinite or at most 2^61
pub values_small : (task : FiniteDomainTask) (columns : List (List Table)) → AreColumns Two columns → (state : List ℕ) → IsWithin (2 ^ 61) (heuristic_of task columns state)
values_small task columns are state = columns_within task state columns are.each

-- ---- what is kept

tables_lawful : (column : List ColumnTable) → AllByRecursion (IsTable Two) (tables_in column)
tables_lawful [] = tt
tables_lawful (t ∷ ts) = (∥∥₁_elim t.lawful (table_prop t.table) (λ is. is), tables_lawful ts)

some_tables : (column : List ColumnTable) → column ≢ [] → tables_in column ≢ []
some_tables [] some e = some refl
some_tables (t ∷ ts) some e = cc e

abbrev IsSome : Vec ColumnTable Global → Type 0
IsSome column = column.items ≢ []

abbrev IsFew : Vec ColumnTable Global → Type 0
IsFew column = length column.items ≤ 64

columns_lawful : (columns : List (Vec ColumnTable Global)) → All IsSome columns → All IsFew columns → AllByRecursion (IsColumn Two) (map tables_of columns)
columns_lawful [] some few = tt
columns_lawful (c ∷ cs) some few = (
  record {
    some = some_tables c.items (All-head IsSome c cs some);
    few = omega (arith, All-head IsFew c cs few, length-map c.items (λ (t : ColumnTable). t.table));
    tables = tables_lawful c.items;
  },
  columns_lawful cs (All-tail IsSome c cs some) (All-tail IsFew c cs few),
)

module _ (task : FiniteDomainTask) where
  abbrev HasForm : Table → Type 0
  HasForm t = has_form task t ≡ true

  tables_formed : (column : List ColumnTable) → All (IsOf task) column → All HasForm (tables_in column)
  tables_formed [] of = All-nil HasForm
  tables_formed (t ∷ ts) of =
      All-cons HasForm t.table (tables_in ts) (subst (λ own. has_form own t.table ≡ true) (All-head (IsOf task) t ts of) t.formed) (tables_formed ts (All-tail (IsOf task) t ts of))

  columns_formed : (columns : List (Vec ColumnTable Global)) → All (AreOf task) columns → All (All HasForm) (map tables_of columns)
  columns_formed [] of = All-nil (All HasForm)
  columns_formed (c ∷ cs) of =
      All-cons (All HasForm) (tables_of c) (map tables_of cs) (tables_formed c.items (All-head (AreOf task) c cs of)) (columns_formed cs (All-tail (AreOf task) c cs of))

  module _ (columns : List (Vec ColumnTable Global)) (of : All (AreOf task) columns) (few_columns : length columns ≤ 64) (some : All IsSome columns) (few : All IsFew columns) where
    lawful : AreColumns Two (map tables_of columns)
    lawful = record { few = omega (arith, few_columns, length-map columns tables_of); each = columns_lawful columns some few }

    divides : All (λ column. spec.IsColumn task (column_in column)) columns → AreCostPartitioned task (map tables_of columns)
    divides divided = record {
      lawful = lawful;
      formed = columns_formed columns of;
      each = from_map (spec.IsColumn task) (map (table_of task)) (map tables_of columns) (divided_columns task columns of divided);
    }

    pub partitioned : ∥ All (λ column. spec.IsColumn task (column_in column)) columns ∥₁ → (v : ColumnsOf) → record { task = task; columns = map tables_of columns } ≡ v
        → ∥ AreCostPartitioned v.task v.columns ∥₁
    partitioned divided v e = subst (λ (v : ColumnsOf). ∥ AreCostPartitioned v.task v.columns ∥₁) e (∥∥₁_map divided divides)

    pub small : (v : ColumnsOf) → record { task = task; columns = map tables_of columns } ≡ v → (state : List ℕ) → IsWithin (2 ^ 61) (heuristic_of v.task v.columns state)
    small v e = subst (λ (v : ColumnsOf). (state : List ℕ) → IsWithin (2 ^ 61) (heuristic_of v.task v.columns state)) e (values_small task (map tables_of columns) lawful)
