-- The clauses of a certificate for a finite-domain task, each as a test. They allow anyone to check a lower bound on
-- the cost of every plan: cost-partitioned tables (Seipp, Keller and Helmert 2020), and a closed list whose successors
-- are in it or have a heuristic value that reaches the bound.
use Rattle.std.specs.Prelude.{ℕ, ◌+◌, ◌-◌, Bool, true, false, ◌==◌, ◌&&◌, ◌||◌, not, nat_le, nat_lt, nat_eq, if◌then◌else◌, List, [], ◌∷◌, length, map, option_map, sum_by, slice_get, slice_index_or}
use Rattle.std.specs.List.{list_any}
use Rattle.std.specs.Option.{option_map_or, option_eq}
use Rattle.std.specs.Cmp.Lexicographic.{pointwise}
use Rattle.cost.specs.Distances.{Distance, Finite, Infinite, is_at_most, ◌+ᵈ◌}
use Rattle.fdr.specs.Tasks.{FiniteDomainTask, ranges, step, is_goal_state, cost_of}
use Rattle.abstraction.specs.Abstractions as abstraction
use Rattle.abstraction_mapping.specs.Mappings.{abstraction_by, is_mapping}
use Rattle.abstraction.specs.Columns.{heuristic}
use Rattle.reduction_classes.specs.Reduced.{reduced_task}
use Rattle.cert_value.specs.declared.table.Share.{Share}
use Rattle.cert_value.specs.Certificates.{Table, Entry, CertificateValue}

-- ---- classes

-- the row with this number has one class for each value of the variable with this number, or neither exists
abbrev pub fits_row : FiniteDomainTask → List (List ℕ) → ℕ → Bool
fits_row task rows v = option_eq nat_eq (option_map length (slice_get rows v)) (slice_get (ranges task) v)

-- the task that the columns and the closed states of a certificate with these classes are for: the reduced task, or
-- without classes the task itself
abbrev pub judged_task : FiniteDomainTask → List (List ℕ) → FiniteDomainTask
judged_task task [] = task
judged_task task (row ∷ rows) = reduced_task (row ∷ rows) task

-- ---- tables

-- the share of an operator in a table: 0 if the table does not list it
abbrev pub share_of : List Share → ℕ → ℕ
share_of [] o = 0
share_of (s ∷ shares) o = if s.operator == o then s.amount else share_of shares o

-- the value of an abstract state in a table; a missing value is infinite
abbrev pub value_of : Table → ℕ → Distance
value_of t a = slice_index_or t.values a Infinite

-- the abstraction of the task by the mapping of the table
abbrev pub abstraction_of : FiniteDomainTask → Table → abstraction.Abstraction
abstraction_of task t = abstraction_by task t.mapping

-- the table on this abstraction
abbrev pub table_of : FiniteDomainTask → Table → abstraction.Table
table_of task t = record { abstraction = abstraction_of task t; share = share_of t.shares; value = value_of t }

abbrev pub columns_of : FiniteDomainTask → List (List Table) → List (List abstraction.Table)
columns_of task columns = map (map (table_of task)) columns

-- the heuristic value of a state: the greatest value of a column, and 0 if there is no column
abbrev pub heuristic_of : FiniteDomainTask → List (List Table) → List ℕ → Distance
heuristic_of task columns = heuristic (columns_of task columns)

-- a table with these shares lists the operator, whatever its share
abbrev pub lists : List Share → ℕ → Bool
lists shares o = list_any (λ s. s.operator == o) shares

-- a table of the column lists the operator
abbrev pub column_lists : List Table → ℕ → Bool
column_lists column o = list_any (λ t. lists t.shares o) column

-- the shares of an operator sum to at most its cost, and an operator that a table lists exists
abbrev pub is_within_cost : FiniteDomainTask → List Table → ℕ → Bool
is_within_cost task column o =
    nat_le (sum_by (λ t. share_of t.shares o) column) (cost_of task o) && (nat_lt o (length task.operators) || not (column_lists column o))

-- the mapping is one of the task, and there is a value for each abstract state, of which there are at most 2^24
abbrev pub has_form : FiniteDomainTask → Table → Bool
has_form task t = is_mapping task t.mapping && (length t.values == (abstraction_of task t).size)

abbrev pub is_zero : Distance → Bool
is_zero (Finite n) = n == 0
is_zero Infinite = false

-- an abstract goal has the value 0
abbrev pub is_goal_at_zero : FiniteDomainTask → Table → ℕ → Bool
is_goal_at_zero task t a = if (abstraction_of task t).is_goal a then is_zero (value_of t a) else true

-- the operator lowers the value by at most its share
abbrev pub falls_within_share : FiniteDomainTask → Table → ℕ → ℕ → Bool
falls_within_share task t a o =
    option_map_or (λ b. is_at_most (value_of t a) (Finite (share_of t.shares o) +ᵈ value_of t b))
    ((abstraction_of task t).transition a o) true

-- ---- closed states

-- for each variable a value below its range
abbrev pub is_state : List ℕ → List ℕ → Bool
is_state [] [] = true
is_state [] (x ∷ xs) = false
is_state (r ∷ rs) [] = false
is_state (r ∷ rs) (x ∷ xs) = nat_lt x r && is_state rs xs

-- the first list is lexicographically less than the second
abbrev pub comes_before : List ℕ → List ℕ → Bool
comes_before xs [] = false
comes_before [] (y ∷ ys) = true
comes_before (x ∷ xs) (y ∷ ys) = if x == y then comes_before xs ys else nat_lt x y

-- the state of the entry before the one at index `i`, if there is one, is lexicographically less
abbrev pub is_behind : List Entry → ℕ → List ℕ → Bool
is_behind closed i state =
    if i == 0 then true else option_map_or (λ e. comes_before e.state state) (slice_get closed (i - 1)) true

-- the state is in the closed list with at most this cost
abbrev pub is_listed : List Entry → List ℕ → ℕ → Bool
is_listed closed state g = list_any (λ e. pointwise nat_eq e.state state && nat_le e.cost g) closed

-- the cost at which the state was reached and its heuristic value sum to at least the bound
abbrev pub reaches_bound : FiniteDomainTask → CertificateValue → List ℕ → ℕ → Bool
reaches_bound task c state g = is_at_most c.bound (Finite g +ᵈ heuristic_of task c.columns state)

-- the state, reached at this cost, is in the closed list with at most that cost, or reaches the bound
abbrev pub is_covered : FiniteDomainTask → CertificateValue → List ℕ → ℕ → Bool
is_covered task c state g = is_listed c.closed state g || reaches_bound task c state g

-- a closed goal state costs at least the bound
abbrev pub is_dear_if_goal : FiniteDomainTask → CertificateValue → Entry → Bool
is_dear_if_goal task c e = if is_goal_state task e.state then is_at_most c.bound (Finite e.cost) else true

-- the successor under the operator, if there is one, is covered
abbrev pub covers_successor : FiniteDomainTask → CertificateValue → Entry → ℕ → Bool
covers_successor task c e o = option_map_or (λ s. is_covered task c s (e.cost + cost_of task o)) (step task e.state o) true
