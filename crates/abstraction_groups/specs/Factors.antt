-- Abstractions whose abstract states are assignments of values (or of classes of values) to some variables, and whose
-- operators change each of these values by itself: projections and domain abstractions.
use Rattle.std.specs.Prelude.{◌≡◌, ℕ, ◌^◌, ◌<◌, ◌≤◌, List, length, map, sum_by, Option, option_and_then, slice_get, slice_index, All}
use Rattle.std.specs.List.Sorted.{IsStrictlyIncreasing}
use Rattle.fdr.specs.declared.fact.Fact.{Fact}
use Rattle.fdr.specs.Tasks.{FiniteDomainTask, Operator, ranges, IsTask, IsOperator}
use Rattle.abstraction.specs.declared.digit.Digit.{Digit}
use Rattle.abstraction.specs.Abstractions.{Abstraction}
use Rattle.abstraction.specs.Digits.{digits_from}
use Rattle.abstraction.specs.Facts.{value_in}
use Rattle.abstraction.specs.Projections.{size_of, transition_of, AllExist}
use Rattle.abstraction_groups.specs.declared.change.Change.{Change}
use Rattle.abstraction_groups.specs.Changes.{change_by, change_of, plain, row_of, at_digits, pair_count, distinct_moves}
use Rattle.abstraction_groups.specs.Entrances.{Classes}

-- the variables of the abstract states, the number of values or classes of each variable of the task, and the class of
-- each value of each variable
pub record Factors : Type 0 where
  pub variables : List ℕ
  pub counts : List ℕ
  pub class : ℕ → ℕ → ℕ

-- the operator with classes for the values of its precondition and effect
abbrev pub class_fact : Factors → Fact → Fact
class_fact f fact = record { variable = fact.variable; value = f.class fact.variable fact.value }

abbrev pub class_operator : Factors → Operator → Operator
class_operator f op =
    record op { precondition = map (class_fact f) op.precondition; effect = map (class_fact f) op.effect }

abbrev pub digits_of : Factors → List Digit
digits_of f = digits_from f.counts 1 f.variables

-- the abstract states are the numbers whose digits are the values or classes of the variables, and an operator's
-- transitions are those of the operator with classes in the projection with these ranges
pub record IsFactored (task : FiniteDomainTask) (a : Abstraction) (f : Factors) : Type 0 where
  pub size : a.size ≡ size_of f.counts f.variables
  pub small : size_of f.counts f.variables ≤ 2 ^ 24
  pub increasing : IsStrictlyIncreasing f.variables
  pub exist : AllExist (ranges task) f.variables
  pub positive : All (λ v. 0 < slice_index f.counts v) f.variables
  pub well : IsTask task
  pub operators : All (λ op. IsOperator f.counts (class_operator f op)) task.operators
  pub transition : (i o : ℕ) → a.transition i o
      ≡ option_and_then (λ op. transition_of f.counts f.variables i (class_operator f op)) (slice_get task.operators o)

-- the changes at the variables by a condition and an effect
abbrev pub changes_by : Factors → List Fact → List Fact → List Change
changes_by f condition effect =
    map (λ v. change_by (value_in (map (class_fact f) condition) v) (value_in (map (class_fact f) effect) v)) f.variables

-- the changes that an operator makes at the digits
abbrev pub changes_of : Factors → Operator → List Change
changes_of f op = map (λ v. plain (slice_index f.counts v) (change_of (class_operator f op) v)) f.variables

-- the changes of the groups of operators: those that move something, in the order of their first operators
abbrev pub group_changes : FiniteDomainTask → Factors → List (List Change)
group_changes task f = distinct_moves (map (changes_of f) task.operators)

-- the group of an operator is the one with its changes; an operator that moves nothing has none
abbrev pub group_of : FiniteDomainTask → Factors → ℕ → Option ℕ
group_of task f o =
    option_and_then (λ op. row_of (group_changes task f) (changes_of f op)) (slice_get task.operators o)

abbrev pub groups_of : FiniteDomainTask → Factors → Classes
groups_of task f = record { count = length (group_changes task f); class = group_of task f }

-- the number of transitions by groups: for each group the number of pairs of abstract states that it connects
abbrev pub transition_count : FiniteDomainTask → Factors → ℕ
transition_count task f = sum_by (λ cs. pair_count (at_digits (digits_of f) cs)) (group_changes task f)
