-- The abstraction of a task that maps each state to the sum of the values of two variables.
use Rattle.std.specs.Prelude.{◌≡◌, ℕ, ◌+◌, ◌-◌, ◌<◌, ◌≤◌, ◌^◌, Bool, true, false, ◌==◌, ◌&&◌, ◌||◌, not, if◌then◌else◌, nat_lt, List, length, Option, Some, None, option_and_then, slice_get, slice_index}
use Rattle.std.specs.List.{list_all}
use Rattle.std.specs.Option.{option_map_or}
use Rattle.fdr.specs.declared.fact.Fact.{Fact}
use Rattle.fdr.specs.Tasks.{FiniteDomainTask, Operator, ranges, IsTask, names_variable}
use Rattle.abstraction.specs.Abstractions.{Abstraction}
use Rattle.abstraction.specs.Projections.{value_after}

-- the value of the last fact on the variable, or 0 if there is none
abbrev pub value_of : List Fact → ℕ → ℕ
value_of facts v = value_after facts v 0

-- the value that the variable has before the operator, if the operator has an effect on it, and otherwise 0
abbrev pub value_before : Operator → ℕ → ℕ
value_before op v = if names_variable op.effect v then value_of op.precondition v else 0

-- whether the operator has a condition on the variable if it has an effect on it
abbrev pub is_conditioned : Operator → ℕ → Bool
is_conditioned op v = not (names_variable op.effect v) || names_variable op.precondition v

abbrev pub is_conditioned_on : ℕ → ℕ → Operator → Bool
is_conditioned_on x y op = is_conditioned op x && is_conditioned op y

-- what the operator subtracts from the sum
abbrev pub decrease : ℕ → ℕ → Operator → ℕ
decrease x y op = value_before op x + value_before op y

-- the sum of the facts' values for the two variables
abbrev pub sum_of : ℕ → ℕ → List Fact → ℕ
sum_of x y facts = value_of facts x + value_of facts y

-- the sum with a decrease and an increase, if it is below the size
abbrev pub moved : ℕ → ℕ → ℕ → ℕ → Option ℕ
moved size less more i =
    if nat_lt i less then None else (if nat_lt (i + more - less) size then Some (i + more - less) else None)

-- the number of sums
abbrev pub size_of : FiniteDomainTask → ℕ → ℕ → ℕ
size_of task x y = slice_index (ranges task) x + slice_index (ranges task) y - 1

abbrev pub transition_of : FiniteDomainTask → ℕ → ℕ → ℕ → Operator → Option ℕ
transition_of task x y i op = moved (size_of task x y) (decrease x y op) (sum_of x y op.effect) i

abbrev pub value_sum : FiniteDomainTask → ℕ → ℕ → Abstraction
value_sum task x y =
    record {
      size = size_of task x y;
      index = λ s. slice_index s x + slice_index s y;
      transition = λ i o. option_and_then (transition_of task x y i) (slice_get task.operators o);
      touches = λ o. option_map_or (λ op. not (decrease x y op == sum_of x y op.effect)) (slice_get task.operators o) false;
      is_goal = λ i. if names_variable task.goal x && names_variable task.goal y then i == sum_of x y task.goal else true;
    }

-- the variables exist, operators have conditions on them if they have effects on them, and there are few sums
pub record IsSummable (task : FiniteDomainTask) (x y : ℕ) : Type 0 where
  pub is_task : IsTask task
  pub first : x < length (ranges task)
  pub second : y < length (ranges task)
  pub conditioned : list_all (is_conditioned_on x y) task.operators ≡ true
  pub few : slice_index (ranges task) x + slice_index (ranges task) y ≤ 2 ^ 24

-- the abstraction by the sum of the values of two variables
pub record ValueSum : Type 0 where
  pub task : FiniteDomainTask
  pub first : ℕ
  pub second : ℕ
  pub summable : IsSummable task first second
