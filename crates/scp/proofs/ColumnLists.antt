-- Columns that are made each from an order of mappings.
use Rattle.std.proofs.Common.{◌≢◌, ◌≤◌, List, [], ◌∷◌, length, map, refl, sym, ap, ◌∙◌, arith}
use Rattle.std.specs.Prelude.{All, Vec}
use Rattle.std.specs.List.{AllZip}
use Rattle.std.specs.Global.{Global}
use Rattle.std.proofs.lemmas.List.{length-map}
use Rattle.std.proofs.lemmas.List.Elements.{All-nil, All-cons, All-head, All-tail}
use Rattle.fdr.specs.Tasks.{FiniteDomainTask, IsTask}
use Rattle.abstraction.specs.Columns.{IsColumn}
use Rattle.abstraction_mapping.specs.Mappings.{Mapping}
use Rattle.abstraction_mapping.specs.Views.{mapping_of}
use Rattle.abstraction_mapping.specs.declared.mapping.Mapping.{Mapping as KeptMapping}
use Rattle.scp_columns.specs.ColumnTables.{ColumnTable}
use Rattle.scp.specs.Partitions.{IsColumnFrom, AreColumnsFrom, mappings_of}
use Rattle.scp.proofs.SameColumns.{AreOf, column_in}
use Rattle.scp.proofs.MadeColumns.{divides_costs, as_many}

abbrev Order : Type 0
Order = Vec KeptMapping Global

abbrev pub IsFew : Vec ColumnTable Global → Type 0
IsFew column = length column.items ≤ 64

abbrev pub IsSome : Vec ColumnTable Global → Type 0
IsSome column = column.items ≢ []

abbrev pub Divides : FiniteDomainTask → Vec ColumnTable Global → Type 0
Divides task column = IsColumn task (column_in column)

some_mappings : (order : List KeptMapping) → order ≢ [] → map mapping_of order ≢ []
some_mappings [] some e = some refl
some_mappings (m ∷ ms) some e = cc e

module _ (task : FiniteDomainTask) (well : IsTask task) where
  one_column_more : (order : Order) (column : Vec ColumnTable Global) (given : List (List Mapping)) (columns : List (Vec ColumnTable Global))
      → length order.items ≤ 64 → order.items ≢ [] → IsColumnFrom task order column → AreColumnsFrom task given columns
      → AreColumnsFrom task (mappings_of order ∷ given) (column ∷ columns)
  one_column_more order column given columns few some from rest = record {
    of_task = All-cons (AreOf task) column columns from.of_task rest.of_task;
    as_many = omega (arith, rest.as_many);
    none_empty = All-cons IsSome column columns
        (λ e. some_mappings order.items some (sym from.made.mappings ∙ ap (λ ts. map (λ t. t.mapping) (map (λ (t : ColumnTable). t.table) ts)) e)) rest.none_empty;
    few = All-cons IsFew column columns (omega (arith, few, as_many task column.items (mappings_of order) from.made, length-map order.items mapping_of)) rest.few;
    divided = All-cons (Divides task) column columns (divides_costs task well column.items (mappings_of order) from.of_task from.made) rest.divided;
    made = (from.made, rest.made);
  }

  pub columns_made : (orders : List Order) (columns : List (Vec ColumnTable Global)) → All (λ order. length order.items ≤ 64) orders → All (λ order. order.items ≢ []) orders
      → AllZip (IsColumnFrom task) orders columns → AreColumnsFrom task (map mappings_of orders) columns
  columns_made [] [] few some from = record { of_task = All-nil (AreOf task); as_many = refl; none_empty = All-nil IsSome; few = All-nil IsFew; divided = All-nil (Divides task); made = tt }
  columns_made [] (c ∷ cs) few some from = absurd from
  columns_made (o ∷ os) [] few some from = absurd from
  columns_made (o ∷ os) (c ∷ cs) few some from =
      one_column_more o c (map mappings_of os) cs (All-head (λ order. length order.items ≤ 64) o os few) (All-head (λ order. order.items ≢ []) o os some) from.0
      (columns_made os cs (All-tail (λ order. length order.items ≤ 64) o os few) (All-tail (λ order. order.items ≢ []) o os some) from.1)
