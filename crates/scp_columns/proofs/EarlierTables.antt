-- The tables of a column one after the other, each with the costs before it.
use Rattle.std.proofs.Common.{◌≡◌, ℕ, zero, suc, ◌-◌, ◌<◌, ◌≤◌, true, List, [], ◌∷◌, ◌++◌, length, map, refl, sym, ap, ◌∙◌, subst, arith}
use Rattle.std.specs.Prelude.{Vec, get_or, slice_get, slice_index, IsSomeAnd}
use Rattle.std.specs.List.{AllZip}
use Rattle.std.specs.Global.{Global}
use Rattle.fdr.specs.Tasks.{FiniteDomainTask}
use Rattle.abstraction.specs.Abstractions.{IsAbstractionOf}
use Rattle.abstraction_mapping.specs.Mappings.{Mapping, abstraction_by}
use Rattle.checker_clauses.specs.Clauses.{table_of, share_of}
use Rattle.pdb_walks.specs.Walks.{HasDistances, IsPartition}
use Rattle.scp_columns.specs.ColumnTables.{ColumnTable}
use Rattle.scp_columns.specs.EarlierTables.{IsMadeUnder}
use Rattle.scp_columns.specs.Partitions.{IsNextTable}
use Rattle.scp_columns.proofs.ColumnsSoFar.{tables_in}
use Rattle.scp_columns.proofs.SharedDistances.{same_distances}

-- ---- lists that go together

module _ {X Y : Type 0} (R : X → Y → Type 0) where
  pub one_more : (xs : List X) (ys : List Y) (x : X) (y : Y) → AllZip R xs ys → R x y → AllZip R (xs ++ x ∷ []) (ys ++ y ∷ [])
  one_more [] [] x y all h = (h, tt)
  one_more [] (z ∷ ys) x y all h = absurd all
  one_more (z ∷ xs) [] x y all h = absurd all
  one_more (z ∷ xs) (w ∷ ys) x y all h = (all.0, one_more xs ys x y all.1 h)

  pub as_many : (xs : List X) (ys : List Y) → AllZip R xs ys → length ys ≡ length xs
  as_many [] [] all = refl
  as_many [] (y ∷ ys) all = absurd all
  as_many (x ∷ xs) [] all = absurd all
  as_many (x ∷ xs) (y ∷ ys) all = ap suc (as_many xs ys all.1)

  pub at_place : (xs : List X) (ys : List Y) (i : ℕ) (d : X) (e : Y) → AllZip R xs ys → i < length xs → R (get_or xs i d) (get_or ys i e)
  at_place [] ys i d e all l = absurd (omega (arith, l))
  at_place (x ∷ xs) [] i d e all l = absurd all
  at_place (x ∷ xs) (y ∷ ys) zero d e all l = all.0
  at_place (x ∷ xs) (y ∷ ys) (suc i) d e all l = at_place xs ys i d e all.1 (omega (arith, l))

-- ---- an element that was found

pub within : {X : Type 0} (P : X → Type 0) (xs : List X) (i : ℕ) → IsSomeAnd (slice_get xs i) P → i < length xs
within P [] i found = absurd found
within P (x ∷ xs) zero found = omega arith
within P (x ∷ xs) (suc i) found = omega (arith, within P xs i found)

pub found_at : {X : Type 0} (P : X → Type 0) (xs : List X) (i : ℕ) (d : X) → IsSomeAnd (slice_get xs i) P → P (get_or xs i d)
found_at P [] i d found = absurd found
found_at P (x ∷ xs) zero d found = found
found_at P (x ∷ xs) (suc i) d found = found_at P xs i d found

-- ---- tables

module _ (task : FiniteDomainTask) where
  -- the first of the tables that are left has the distances under what is left
  pub first_made : (left : List ℕ) (costs : Vec ℕ Global) (t : ColumnTable) (ts : List ColumnTable) → costs.items ≡ left → t.task ≡ task → length left ≡ length task.operators
      → IsPartition (λ o. slice_index left o) (map (table_of task) (tables_in (t ∷ ts))) → IsMadeUnder task t costs
  first_made left costs t ts same of_task long p = record {
    of_task = of_task;
    as_long = ap length same ∙ long;
    distances = subst (λ (xs : List ℕ). HasDistances (table_of task t.table) (λ o. slice_index xs o)) (sym same) (p.0);
    saturated = p.1;
  }

  -- and the others under what it leaves
  pub others_made : (left rest : List ℕ) (t : ColumnTable) (ts : List ColumnTable) → ((o : ℕ) → slice_index rest o ≡ slice_index left o - share_of t.table.shares o)
      → IsPartition (λ o. slice_index left o) (map (table_of task) (tables_in (t ∷ ts))) → IsPartition (λ o. slice_index rest o) (map (table_of task) (tables_in ts))
  others_made left rest t ts is p =
      let same : (λ o. slice_index left o - share_of t.table.shares o) ≡ (λ o. slice_index rest o) = λ k o. sym (is o) k in
      subst (λ (f : ℕ → ℕ). IsPartition f (map (table_of task) (tables_in ts))) same p.2

-- a table that was made under other costs is the next one under these
pub serves : (task : FiniteDomainTask) (m : Mapping) (t : ColumnTable) (costs : Vec ℕ Global) (left : List ℕ) → IsAbstractionOf task (abstraction_by task m) → IsMadeUnder task t costs
    → t.table.mapping ≡ m → ((o : ℕ) → share_of t.table.shares o ≤ slice_index left o)
    → ((o : ℕ) → (abstraction_by task m).touches o ≡ true → slice_index left o ≤ slice_index costs.items o) → IsNextTable task m (λ o. slice_index left o) t.table
serves task m t costs left abs made is enough no_more = record {
  mapping = is;
  distances = same_distances task (table_of task t.table) (subst (λ n. IsAbstractionOf task (abstraction_by task n)) (sym is) abs)
      (λ o. slice_index costs.items o) (λ o. slice_index left o) made.distances made.saturated enough
      (subst (λ n. (o : ℕ) → (abstraction_by task n).touches o ≡ true → slice_index left o ≤ slice_index costs.items o) (sym is) no_more);
  saturated = made.saturated;
}
