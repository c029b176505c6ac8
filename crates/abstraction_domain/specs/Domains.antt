-- The domain abstraction of a task by classes of values (Hernádvölgyi and Holte 2000; Kreft, Büchner, Sievers and
-- Helmert 2023): each value of a variable that has a row is replaced by its class, in states, in conditions and in
-- effects, and the result is projected to the variables of the rows.
use Rattle.std.specs.Prelude.{◌≡◌, ℕ, ◌+◌, ◌*◌, ◌^◌, ◌<◌, ◌≤◌, ◌==◌, if◌then◌else◌, false, List, [], ◌∷◌, length, take, map, option_and_then, slice_get, slice_index, slice_index_or, slice_set, All}
use Rattle.std.specs.List.{list_all, range_with_len}
use Rattle.std.specs.Option.{option_map_or}
use Rattle.std.specs.List.Sorted.{IsStrictlyIncreasing}
use Rattle.fdr.specs.declared.fact.Fact.{Fact}
use Rattle.fdr.specs.Tasks.{FiniteDomainTask, Operator, ranges, IsTask, IsState}
use Rattle.abstraction.specs.Abstractions.{Abstraction}
use Rattle.abstraction.specs.Projections.{size_of, index_of, agrees, transition_of, touches_pattern}
use Rattle.abstraction_domain.specs.Rows.{Row, class_count}
use Rattle.abstraction_domain.specs.declared.fault.DomainFault.{DomainFault}
use Rattle.abstraction_domain.specs.declared.fault.DomainFault.TheVariants.{OutOfMemory, UnknownVariable, WrongRange, TableTooLarge}

-- the variables of the rows
abbrev pub variables : List Row → List ℕ
variables rows = map (λ r. r.variable) rows

-- the class of a value of a variable; a variable without a row keeps its values
abbrev pub class_of : List Row → ℕ → ℕ → ℕ
class_of [] v x = x
class_of (r ∷ rs) v x = if r.variable == v then slice_index r.classes x else class_of rs v x

-- the number of classes of each variable; a variable without a row keeps its range
abbrev pub class_counts : List Row → List ℕ → List ℕ
class_counts [] ranges = ranges
class_counts (r ∷ rs) ranges = slice_set (class_counts rs ranges) r.variable (class_count r.classes)

-- the classes of the values of a state
abbrev pub class_state : List Row → List ℕ → List ℕ
class_state [] state = state
class_state (r ∷ rs) state =
    slice_set (class_state rs state) r.variable (slice_index r.classes (slice_index state r.variable))

-- the fact with the class of its value
abbrev pub class_fact : List Row → Fact → Fact
class_fact rows f = record { variable = f.variable; value = class_of rows f.variable f.value }

abbrev pub class_facts : List Row → List Fact → List Fact
class_facts rows facts = map (class_fact rows) facts

-- the operator with the classes of the values of its precondition and effect
abbrev pub class_operator : List Row → Operator → Operator
class_operator rows op =
    record op { precondition = class_facts rows op.precondition; effect = class_facts rows op.effect }

-- the domain abstraction: index, transitions, affecting operators and abstract goals are those of the projection to the
-- variables of the rows, with classes for values and numbers of classes for ranges
abbrev pub domain : FiniteDomainTask → List Row → Abstraction
domain task rows =
    let counts : List ℕ = class_counts rows (ranges task) in
    let pattern : List ℕ = variables rows in
    record {
      size = size_of counts pattern;
      index = λ s. index_of counts pattern (class_state rows s);
      transition = λ i o. option_and_then (λ op. transition_of counts pattern i (class_operator rows op)) (slice_get task.operators o);
      touches = λ o. option_map_or (touches_pattern pattern) (slice_get task.operators o) false;
      is_goal = λ i. list_all (agrees counts pattern i) (class_facts rows task.goal);
    }

-- the task has the variable, and the row has a class for each of its values
pub record IsFit (ranges : List ℕ) (r : Row) : Type 0 where
  pub exists : r.variable < length ranges
  pub as_long : length r.classes ≡ slice_index ranges r.variable

-- the domain abstraction of a task by rows on strictly increasing variables, with at most 2^24 abstract states
pub record Domain : Type 0 where
  pub task : FiniteDomainTask
  pub rows : List Row
  pub is_task : IsTask task
  pub increasing : IsStrictlyIncreasing (variables rows)
  pub fit : All (IsFit (ranges task)) rows
  pub small : (domain task rows).size ≤ 2 ^ 24

-- the number of classes of each variable in a domain abstraction
abbrev pub counts_in : Domain → List ℕ
counts_in d = class_counts d.rows (ranges d.task)

-- the default for an index without a row
abbrev pub no_row : Row
no_row = record { variable = 0; classes = [] }

-- the first row that does not fit: the task does not have its variable, or that has another number of values; otherwise
-- too many abstract states
abbrev pub IsFaultOf : FiniteDomainTask → List Row → DomainFault → Type 0
IsFaultOf task rows OutOfMemory = Unit {0}
IsFaultOf task rows (UnknownVariable k) =
    (k < length rows) × All (IsFit (ranges task)) (take k rows) × (length (ranges task) ≤ (slice_index_or rows k no_row).variable)
IsFaultOf task rows (WrongRange k) =
    (k < length rows) × All (IsFit (ranges task)) (take k rows) × ((slice_index_or rows k no_row).variable < length (ranges task)) ×
    (length (slice_index_or rows k no_row).classes ≡ slice_index (ranges task) (slice_index_or rows k no_row).variable → ⊥)
IsFaultOf task rows TableTooLarge = All (IsFit (ranges task)) rows × (2 ^ 24 < (domain task rows).size)

-- the sum of the classes of a state, each times a weight: the product of the numbers of classes of the rows before it
abbrev pub weighted_classes : List Row → List ℕ → ℕ → ℕ
weighted_classes [] state weight = 0
weighted_classes (r ∷ rs) state weight =
    slice_index r.classes (slice_index state r.variable) * weight + weighted_classes rs state (weight * class_count r.classes)

-- each value is its own class
abbrev pub identity_rows : List ℕ → List ℕ → List Row
identity_rows ranges pattern =
    map (λ v. record { variable = v; classes = range_with_len 0 (slice_index ranges v) }) pattern

-- two abstractions have the same abstract states, transitions, affecting operators and abstract goals, and the same
-- index of each state
pub record AreSame (ranges : List ℕ) (a b : Abstraction) : Type 0 where
  pub size : a.size ≡ b.size
  pub index : (s : List ℕ) → IsState ranges s → a.index s ≡ b.index s
  pub transition : (i o : ℕ) → a.transition i o ≡ b.transition i o
  pub touches : (o : ℕ) → a.touches o ≡ b.touches o
  pub is_goal : (i : ℕ) → a.is_goal i ≡ b.is_goal i
