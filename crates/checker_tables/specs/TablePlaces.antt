-- The positions of a certificate's tables, in order.
use Rattle.std.specs.Prelude.{◌≡◌, ℕ, ◌<◌, ◌≤◌, List, slice_get, IfSome, IsSomeAnd, Option, Some, None}
use Rattle.fdr.specs.Tasks.{FiniteDomainTask}
use Rattle.cert_value.specs.Certificates.{Table}
use Rattle.checker_clauses.specs.declared.violation.Violation.{Violation}
use Rattle.checker_clauses.specs.Violations.{table_at}
use Rattle.checker_tables.specs.declared.fault.TableFault.{TableFault}
use Rattle.checker_tables.specs.declared.places.TablePlace.{TablePlace}
use Rattle.checker_tables.specs.TableFaults.{IsFirstFault, violation_at}

-- position `p` comes before table `j` of column `i`
abbrev pub IsBefore : TablePlace → ℕ → ℕ → Type 0
IsBefore p i j = (p.column ≤ i) × (p.column ≡ i → p.table < j)

-- the positions are in order
abbrev pub AreOrdered : List TablePlace → Type 0
AreOrdered places =
    (m k : ℕ) (p q : TablePlace) → m < k → slice_get places m ≡ Some p → slice_get places k ≡ Some q → IsBefore p q.column q.table

-- the list contains the position
abbrev pub IsListed : List TablePlace → TablePlace → Type 0
IsListed places p = (k : ℕ) × (slice_get places k ≡ Some p)

-- the positions of all tables of the columns, in order
pub record IsListing (columns : List (List Table)) (places : List TablePlace) : Type 0 where
  pub ordered : AreOrdered places
  pub complete : (p : TablePlace) (t : Table) → table_at columns p.column p.table ≡ Some t → IsListed places p

-- the positions of all tables before table `j` of column `i`, in order
pub record IsListingBefore (columns : List (List Table)) (i j : ℕ) (places : List TablePlace) : Type 0 where
  pub before : (k : ℕ) (p : TablePlace) → slice_get places k ≡ Some p → IsBefore p i j
  pub ordered : AreOrdered places
  pub complete : (p : TablePlace) (t : Table) → IsBefore p i j → table_at columns p.column p.table ≡ Some t → IsListed places p

-- the first fault of a table, if there is this table
abbrev pub IsFaultOf : FiniteDomainTask → Option Table → Option TableFault → Type 0
IsFaultOf task t None = IfSome t (λ u. IsFirstFault task u None)
IsFaultOf task t (Some f) = IsSomeAnd t (λ u. IsFirstFault task u (Some f))

-- the result of the clause C4 for the table at index `k` of the positions
abbrev pub says_table : FiniteDomainTask → List (List Table) → List TablePlace → ℕ → Option Violation → Type 0
says_table task columns places k None =
    IfSome (slice_get places k) (λ p. IsFaultOf task (table_at columns p.column p.table) None)
says_table task columns places k (Some v) =
    IsSomeAnd (slice_get places k)
    (λ p. (f : TableFault) × (v ≡ violation_at p.column p.table f) × IsFaultOf task (table_at columns p.column p.table) (Some f))
