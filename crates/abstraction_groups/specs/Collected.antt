-- The groups of the first operators, and of all.
use Rattle.std.specs.Prelude.{◌≡◌, ℕ, ◌<◌, ◌↔◌, List, [], length, map, sum_by, filter, Some, All, Contains, slice_get, slice_index_or}
use Rattle.std.specs.List.Sorted.{IsStrictlyIncreasing}
use Rattle.keyed_lists.specs.declared.lists.Keyed.{Keyed}
use Rattle.fdr.specs.Tasks.{FiniteDomainTask}
use Rattle.abstraction.specs.declared.digit.Digit.{Digit}
use Rattle.abstraction_groups.specs.declared.change.Change.{Change}
use Rattle.abstraction_groups.specs.Changes.{at_digits, pair_count, moves, distinct_moves}
use Rattle.abstraction_groups.specs.Factors.{Factors, changes_of, group_of, group_changes}
use Rattle.abstraction_groups.specs.Indexes.{HasEffectOn}

-- exactly the operators with an effect on one of the variables
pub record AreAffecting (task : FiniteDomainTask) (variables : List ℕ) (operators : List ℕ) : Type 0 where
  pub increasing : IsStrictlyIncreasing operators
  pub exactly : (o : ℕ) → Contains operators o ↔ ((v : ℕ) × Contains variables v × HasEffectOn task o v)

-- the number of transitions of groups with these changes
abbrev pub count_in : List Digit → List (List Change) → ℕ
count_in digits rows = sum_by (λ cs. pair_count (at_digits digits cs)) rows

-- the changes of the operator with this number
abbrev pub changes_by_number : FiniteDomainTask → Factors → ℕ → List Change
changes_by_number task f o = slice_index_or (map (changes_of f) task.operators) o []

-- these operators that move something, each an entry under its group
pub record AreMembers (task : FiniteDomainTask) (f : Factors) (operators : List ℕ) (rows : List (List Change)) (members : List (Keyed ℕ)) : Type 0 where
  pub changes : rows ≡ distinct_moves (map (changes_by_number task f) operators)
  pub items : map (λ e. e.item) members ≡ filter (λ o. moves (changes_by_number task f o)) operators
  pub keys : All (λ e. slice_get rows e.key ≡ Some (changes_by_number task f e.item)) members

-- for each group its operators, by strictly increasing numbers
pub record AreGrouped (task : FiniteDomainTask) (f : Factors) (lists : List (List ℕ)) : Type 0 where
  pub as_long : length lists ≡ length (group_changes task f)
  pub increasing : (g : ℕ) → g < length lists → IsStrictlyIncreasing (slice_index_or lists g [])
  pub operators : (g o : ℕ) → g < length lists → Contains (slice_index_or lists g []) o ↔ (group_of task f o ≡ Some g)
