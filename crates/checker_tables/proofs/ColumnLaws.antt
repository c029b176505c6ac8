-- Columns of tables and their values.
use Rattle.std.proofs.Common.{◌≡◌, ℕ, ◌+◌, ◌<◌, Bool, true, false, ◌||◌, List, [], ◌∷◌, ◌++◌, length, get_or, drop, map, All, append_assoc, refl, sym, ap, ◌∙◌, subst}
use Rattle.std.specs.Prelude.{Vec, Option, Some, option_and_then, option_map, slice_get, IsSomeAnd}
use Rattle.std.specs.Global.{Global}
use Rattle.std.proofs.lemmas.Bool.{true_from_ne_false}
use Rattle.std.proofs.lemmas.List.{at_drop_more, map-append}
use Rattle.std.proofs.lemmas.List.Elements.{All-head, All-tail}
use Rattle.std.proofs.lemmas.Option.{slice_get-map, slice_get-get_or}
use Rattle.cost.specs.Distances.{Distance, Finite, ◌+ᵈ◌, is_at_most, larger}
use Rattle.fdr.specs.Tasks.{FiniteDomainTask}
use Rattle.abstraction.specs.Abstractions as abstraction
use Rattle.abstraction.specs.Columns.{column_value, heuristic}
use Rattle.cert_value.specs.declared.table.AbstractionTable.{AbstractionTable}
use Rattle.cert_value.specs.Certificates.{Table, CertificateValue}
use Rattle.cert_value.specs.Views as kept
use Rattle.checker_clauses.specs.declared.violation.Violation.TheVariants.{TableForm}
use Rattle.checker_clauses.specs.Clauses.{has_form, table_of, columns_of, heuristic_of}
use Rattle.checker_clauses.specs.Violations.{IsMet, table_at}
use Rattle.checker_tables.specs.MappedTables.{MappedTable, on_abstraction, column_of, tables_of}
use Rattle.checker_tables.specs.Rests.{rest_of}
use Rattle.checker_tables.proofs.BoundLaws.{sum_reaches, larger_reaches}

module _ (task : FiniteDomainTask) where
  -- tables on their abstractions are those of the task
  on_task : (ts : List MappedTable) → All (λ (t : MappedTable). t.task ≡ task) ts → map on_abstraction ts ≡ map (table_of task) (map (λ (t : MappedTable). t.table) ts)
  on_task [] all = refl
  on_task (t ∷ ts) all =
      ap (λ (u : FiniteDomainTask). table_of u t.table ∷ map on_abstraction ts) (All-head (λ (t : MappedTable). t.task ≡ task) t ts all)
      ∙ ap (λ (rest : List abstraction.Table). table_of task t.table ∷ rest) (on_task ts (All-tail (λ (t : MappedTable). t.task ≡ task) t ts all))

  pub columns_on_task : (cs : List (Vec MappedTable Global)) → All (λ (column : Vec MappedTable Global). All (λ (t : MappedTable). t.task ≡ task) column.items) cs → map column_of cs ≡ columns_of task (map tables_of cs)
  columns_on_task [] all = refl
  columns_on_task (c ∷ cs) all =
      ap (λ (column : List abstraction.Table). column ∷ map column_of cs) (on_task c.items (All-head (λ (column : Vec MappedTable Global). All (λ (t : MappedTable). t.task ≡ task) column.items) c cs all))
      ∙ ap (λ (rest : List (List abstraction.Table)). map (table_of task) (tables_of c) ∷ rest)
      (columns_on_task cs (All-tail (λ (column : Vec MappedTable Global). All (λ (t : MappedTable). t.task ≡ task) column.items) c cs all))

-- one more item is made of the list
pub map_push : {X Y Z : Type 0} (f : X → Z) (g : Y → Z) (made : List X) (x : X) (ys : List Y) (i : ℕ) (d : Y) → i < length ys → f x ≡ g (get_or ys i d)
    → map f (made ++ x ∷ []) ++ map g (drop (i + 1) ys) ≡ map f made ++ map g (drop i ys)
map_push {X} {Y} {Z} f g made x ys i d l e =
    ap (λ (zs : List Z). zs ++ map g (drop (i + 1) ys)) (map-append f made (x ∷ []))
    ∙ append_assoc (map f made) (f x ∷ []) (map g (drop (i + 1) ys))
    ∙ ap (λ (z : Z). map f made ++ z ∷ map g (drop (i + 1) ys)) e
    ∙ ap (λ (zs : List Z). map f made ++ zs) (sym (at_drop_more (map g) ys i d l))

-- whether what is left of a bound is reached by columns, from one on
module _ (cs : List (Vec MappedTable Global)) (state : List ℕ) (rest : Distance) where
  pub reached_at : (i : ℕ) (c : Vec MappedTable Global) → i < length cs → c ≡ get_or cs i c → true ≡ is_at_most rest (column_value state (map on_abstraction c.items))
      → is_at_most rest (heuristic (map column_of (drop i cs)) state) ≡ true
  reached_at i c l is e =
      at_drop_more (λ (xs : List (Vec MappedTable Global)). is_at_most rest (heuristic (map column_of xs) state)) cs i c l
      ∙ ap (λ (x : Vec MappedTable Global). is_at_most rest (larger (column_value state (column_of x)) (heuristic (map column_of (drop (i + 1) cs)) state))) (sym is)
      ∙ larger_reaches rest (column_value state (column_of c)) (heuristic (map column_of (drop (i + 1) cs)) state)
      ∙ ap (λ (b : Bool). b || is_at_most rest (heuristic (map column_of (drop (i + 1) cs)) state)) (sym e)

-- whether the whole bound is reached, by what is left of it and the columns as they lie in memory
pub whole_bound : (bound : Distance) (cost : ℕ) (rest : Distance) (task : FiniteDomainTask) (cs : List (Vec MappedTable Global)) (state : List ℕ)
    → rest ≡ rest_of bound (Finite cost) → All (λ (column : Vec MappedTable Global). All (λ (t : MappedTable). t.task ≡ task) column.items) cs
    → is_at_most bound (Finite cost +ᵈ heuristic_of task (map tables_of cs) state) ≡ is_at_most rest (heuristic (map column_of cs) state)
whole_bound bound cost rest task cs state is of_task =
    sum_reaches bound (Finite cost) (heuristic_of task (map tables_of cs) state)
    ∙ ap (λ (r : Distance). is_at_most r (heuristic_of task (map tables_of cs) state)) (sym is)
    ∙ ap (λ (columns : List (List abstraction.Table)). is_at_most rest (heuristic columns state)) (sym (columns_on_task task cs of_task))

-- where every table has its form, so have those of a column
pub column_forms : (task : FiniteDomainTask) (c : CertificateValue) → IsMet task c 4 → (columns : List (Vec AbstractionTable Global)) → kept.columns_of columns ≡ c.columns
    → (i : ℕ) (column : Vec AbstractionTable Global) → i < length columns → column ≡ get_or columns i column
    → All (λ (t : AbstractionTable). has_form task (kept.table_of t) ≡ true) column.items
column_forms task c met columns are i column l is j t k =
    true_from_ne_false (has_form task (kept.table_of (get_or column.items j t))) (λ e. met (TableForm i j) refl
    (subst (λ (r : Option Table). IsSomeAnd r (λ u. has_form task u ≡ false)) (sym found) e))
  where
    found : table_at c.columns i j ≡ Some (kept.table_of (get_or column.items j t))
    found =
        ap (λ (cs : List (List Table)). table_at cs i j) (sym are)
        ∙ ap (λ (r : Option (List Table)). option_and_then (λ ts. slice_get ts j) r) (slice_get-map kept.column_of columns i)
        ∙ ap (λ (r : Option (Vec AbstractionTable Global)). option_and_then (λ ts. slice_get ts j) (option_map kept.column_of r)) (slice_get-get_or columns i column l)
        ∙ ap (λ (x : Vec AbstractionTable Global). slice_get (kept.column_of x) j) (sym is)
        ∙ slice_get-map kept.table_of column.items j
        ∙ ap (λ (r : Option AbstractionTable). option_map kept.table_of r) (slice_get-get_or column.items j t k)

-- the column of that number among columns as they lie in memory
pub column_in : (columns : List (Vec AbstractionTable Global)) (i : ℕ) (column : Vec AbstractionTable Global) → i < length columns → column ≡ get_or columns i column
    → slice_get (kept.columns_of columns) i ≡ Some (kept.column_of column)
column_in columns i column l is =
    slice_get-map kept.column_of columns i
    ∙ ap (λ (r : Option (Vec AbstractionTable Global)). option_map kept.column_of r) (slice_get-get_or columns i column l)
    ∙ ap (λ (x : Vec AbstractionTable Global). Some (kept.column_of x)) (sym is)

-- the column of that number of a certificate, as it lies in memory
pub column_at : (c : CertificateValue) (columns : List (Vec AbstractionTable Global)) → kept.columns_of columns ≡ c.columns → (i : ℕ) (column : Vec AbstractionTable Global) → i < length columns → column ≡ get_or columns i column
    → (tables : List AbstractionTable) → tables ≡ column.items → slice_get c.columns i ≡ Some (map kept.table_of tables)
column_at c columns are i column l is tables items =
    ap (λ (cs : List (List Table)). slice_get cs i) (sym are)
    ∙ column_in columns i column l is
    ∙ ap (λ (ts : List AbstractionTable). Some (map kept.table_of ts)) (sym items)
