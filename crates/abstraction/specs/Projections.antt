-- The projection of a task to a pattern, a list of its variables (Culberson and Schaeffer 1998; Edelkamp 2001).
use Rattle.std.specs.Prelude.{ℕ, ◌+◌, ◌*◌, ◌/◌, ◌%◌, ◌^◌, ◌<◌, ◌≤◌, Bool, true, false, ◌==◌, if◌then◌else◌, List, [], ◌∷◌, length, take, Option, Some, None, option_and_then, slice_get, slice_index, fold, All}
use Rattle.std.specs.List.{list_all, list_any}
use Rattle.std.specs.Option.{option_map_or}
use Rattle.std.specs.List.Sorted.{IsStrictlyIncreasing}
use Rattle.fdr.specs.declared.fact.Fact.{Fact}
use Rattle.fdr.specs.Tasks.{FiniteDomainTask, Operator, ranges, IsTask, names_variable}
use Rattle.abstraction.specs.Abstractions.{Abstraction}
use Rattle.abstraction.specs.declared.fault.ProjectionFault.{ProjectionFault}
use Rattle.abstraction.specs.declared.fault.ProjectionFault.TheVariants.{OutOfMemory, UnknownVariable, TableTooLarge}

-- the product of the ranges of the pattern's variables
abbrev pub size_of : List ℕ → List ℕ → ℕ
size_of ranges [] = 1
size_of ranges (p ∷ ps) = slice_index ranges p * size_of ranges ps

-- the abstract state of a state, as a mixed-radix number whose lowest digit is the first variable's value
abbrev pub index_of : List ℕ → List ℕ → List ℕ → ℕ
index_of ranges [] state = 0
index_of ranges (p ∷ ps) state = slice_index state p + slice_index ranges p * index_of ranges ps state

-- the same number as a sum of values times weights; a weight is the product of the ranges before it
abbrev pub weighted_sum : List ℕ → List ℕ → List ℕ → ℕ → ℕ
weighted_sum ranges [] state weight = 0
weighted_sum ranges (p ∷ ps) state weight =
    slice_index state p * weight + weighted_sum ranges ps state (weight * slice_index ranges p)

-- whether the fact holds in the abstract state, or its variable is not in the pattern
abbrev pub agrees : List ℕ → List ℕ → ℕ → Fact → Bool
agrees ranges [] i f = true
agrees ranges (p ∷ ps) i f =
    if p == f.variable then i % slice_index ranges p == f.value
    else agrees ranges ps (i / slice_index ranges p) f

-- the value of the variable after the effect
abbrev pub value_after : List Fact → ℕ → ℕ → ℕ
value_after effect v x = fold (λ y f. if f.variable == v then f.value else y) x effect

-- the abstract state after the effect
abbrev pub index_after : List ℕ → List ℕ → ℕ → List Fact → ℕ
index_after ranges [] i effect = 0
index_after ranges (p ∷ ps) i effect =
    value_after effect p (i % slice_index ranges p)
    + slice_index ranges p * index_after ranges ps (i / slice_index ranges p) effect

-- the abstract state that the operator reaches, if its precondition agrees with the abstract state
abbrev pub transition_of : List ℕ → List ℕ → ℕ → Operator → Option ℕ
transition_of ranges pattern i op =
    if list_all (agrees ranges pattern i) op.precondition then Some (index_after ranges pattern i op.effect)
    else None

-- whether the effect is on a variable of the pattern
abbrev pub touches_pattern : List ℕ → Operator → Bool
touches_pattern pattern op = list_any (names_variable op.effect) pattern

abbrev pub projection : FiniteDomainTask → List ℕ → Abstraction
projection task pattern =
    record {
      size = size_of (ranges task) pattern;
      index = index_of (ranges task) pattern;
      transition = λ i o. option_and_then (transition_of (ranges task) pattern i) (slice_get task.operators o);
      touches = λ o. option_map_or (touches_pattern pattern) (slice_get task.operators o) false;
      is_goal = λ i. list_all (agrees (ranges task) pattern i) task.goal;
    }

-- the task has the pattern's variables
abbrev pub AllExist : List ℕ → List ℕ → Type 0
AllExist ranges pattern = All (λ v. v < length ranges) pattern

-- the projection of a task to strictly increasing variables, with at most 2^24 abstract states
pub record Projection : Type 0 where
  pub task : FiniteDomainTask
  pub pattern : List ℕ
  pub is_task : IsTask task
  pub increasing : IsStrictlyIncreasing pattern
  pub exist : AllExist (ranges task) pattern
  pub small : size_of (ranges task) pattern ≤ 2 ^ 24

-- the first index in the pattern whose variable does not exist; otherwise too many abstract states
abbrev pub IsFaultOf : FiniteDomainTask → List ℕ → ProjectionFault → Type 0
IsFaultOf task pattern OutOfMemory = Unit {0}
IsFaultOf task pattern (UnknownVariable k) =
    (k < length pattern) × (length (ranges task) ≤ slice_index pattern k) × AllExist (ranges task) (take k pattern)
IsFaultOf task pattern TableTooLarge = AllExist (ranges task) pattern × (2 ^ 24 < size_of (ranges task) pattern)
