-- Columns that are made in two parts.
use Rattle.std.proofs.Common.{◌≡◌, ◌<◌, List, [], ◌∷◌, ◌++◌, length, length-append, map, sym, subst, arith, get_or}
use Rattle.std.specs.Prelude.{Vec}
use Rattle.std.specs.List.{AllZip}
use Rattle.std.specs.Global.{Global}
use Rattle.std.proofs.lemmas.List.{map-append}
use Rattle.std.proofs.lemmas.List.Elements.{All-append}
use Rattle.fdr.specs.Tasks.{FiniteDomainTask, cost_of}
use Rattle.abstraction_mapping.specs.Mappings.{Mapping}
use Rattle.checker_clauses.specs.Clauses.{table_of}
use Rattle.pdb_walks.specs.Walks.{IsPartition}
use Rattle.scp_columns.specs.ColumnTables.{ColumnTable, tables_of}
use Rattle.scp_columns.specs.Partitions.{IsMadeFrom}
use Rattle.scp_columns.proofs.ColumnsSoFar.{tables_in}
use Rattle.scp.specs.Partitions.{AreColumnsFrom}
use Rattle.scp.proofs.ColumnLists.{IsFew, IsSome, Divides}
use Rattle.scp.proofs.SameColumns.{AreOf}

zipped : {X Y : Type 0} (R : X → Y → Type 0) (xs us : List X) (ys vs : List Y) → AllZip R xs ys → AllZip R us vs → AllZip R (xs ++ us) (ys ++ vs)
zipped R [] us [] vs h k = k
zipped R [] us (y ∷ ys) vs h k = absurd h
zipped R (x ∷ xs) us [] vs h k = absurd h
zipped R (x ∷ xs) us (y ∷ ys) vs h k = (h.0, zipped R xs us ys vs h.1 k)

module _ (task : FiniteDomainTask) where
  pub joined : (given more : List (List Mapping)) (columns others : List (Vec ColumnTable Global)) → AreColumnsFrom task given columns → AreColumnsFrom task more others
      → AreColumnsFrom task (given ++ more) (columns ++ others)
  joined given more columns others h k = record {
    of_task = All-append (AreOf task) columns others h.of_task k.of_task;
    as_many = omega (arith, h.as_many, k.as_many, length-append columns others, length-append given more);
    none_empty = All-append IsSome columns others h.none_empty k.none_empty;
    few = All-append IsFew columns others h.few k.few;
    divided = All-append (Divides task) columns others h.divided k.divided;
    made = subst (AllZip (IsMadeFrom task) (given ++ more)) (sym (map-append tables_of columns others))
        (zipped (IsMadeFrom task) given more (map tables_of columns) (map tables_of others) h.made k.made);
  }

  -- the tables of the first column were made in turn from the operators' costs
  pub first_partition : (given : List (List Mapping)) (columns : List (Vec ColumnTable Global)) (column : Vec ColumnTable Global) → 0 < length columns → column ≡ get_or columns 0 column
      → AreColumnsFrom task given columns → IsPartition (cost_of task) (map (table_of task) (tables_in column.items))
  first_partition given [] column some is h = absurd (omega (arith, some))
  first_partition [] (c ∷ columns) column some is h = absurd h.made
  first_partition (ms ∷ given) (c ∷ columns) column some is h = rw is h.made.0.partition
