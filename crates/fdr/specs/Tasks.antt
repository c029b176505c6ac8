-- Finite-domain tasks (SAS+: Bäckström and Nebel 1995), their states and their plans. A state is the list of the values
-- of the variables.
use Rattle.std.specs.Prelude.{◌≡◌, ℕ, ◌<◌, ◌≤◌, Bool, true, ◌==◌, ◌&&◌, not, if◌then◌else◌, List, [], ◌∷◌, length, map, Option, Some, None, option_and_then, IsSomeAnd, slice_get, slice_index, slice_set, fold, sum_by, All, false, nat_lt, String, Vec}
use Rattle.std.specs.String.{string_bytes}
use Rattle.std.specs.List.{list_all, list_any}
use Rattle.std.specs.Option.{option_map_or}
use Rattle.cost.specs.Distances.{Distance, Finite, ◌≤ᵈ◌}
use Rattle.fdr.specs.declared.fact.Fact.{Fact}
use Rattle.fdr.specs.declared.task.TaskLimit.{TaskLimit}
use Rattle.fdr.specs.declared.task.TaskLimit.TheVariants.{Variables, Values, Operators}
use Rattle.fdr.specs.Limits.{max_variables, max_values, max_operators}

pub record Operator : Type 0 where
  pub name : List ℕ
  pub precondition : List Fact
  pub effect : List Fact
  pub cost : ℕ

-- A variable is an index into `value_names`, and its values are the numbers below its range, each with a name. Without
-- the metric each operator costs 1.
pub record FiniteDomainTask : Type 0 where
  pub metric : Bool
  pub value_names : List (List (List ℕ))
  pub initial : List ℕ
  pub goal : List Fact
  pub operators : List Operator

-- the number of values of each variable
abbrev pub ranges : FiniteDomainTask → List ℕ
ranges task = map length task.value_names

-- a list is a state: for each variable a value below its range
pub record IsState (ranges state : List ℕ) : Type 0 where
  pub as_long : length state ≡ length ranges
  pub in_range : (v : ℕ) → v < length ranges → slice_index state v < slice_index ranges v

-- the variable exists, and the value is below its range
abbrev pub IsInRange : List ℕ → Fact → Type 0
IsInRange ranges f = (f.variable < length ranges) × (f.value < slice_index ranges f.variable)

-- whether one of the facts is on the variable
abbrev pub names_variable : List Fact → ℕ → Bool
names_variable facts v = list_any (λ f. f.variable == v) facts

-- no two of the facts are on one variable
abbrev pub are_distinct : List Fact → Bool
are_distinct [] = true
are_distinct (f ∷ fs) = not (names_variable fs f.variable) && are_distinct fs

-- facts with values in range, at most one for each variable
pub record IsAssignment (ranges : List ℕ) (facts : List Fact) : Type 0 where
  pub in_range : All (IsInRange ranges) facts
  pub distinct : are_distinct facts ≡ true

pub record IsOperator (ranges : List ℕ) (op : Operator) : Type 0 where
  pub precondition : IsAssignment ranges op.precondition
  pub effect : IsAssignment ranges op.effect

-- the initial state is a state, and the goal, preconditions and effects are assignments
pub record IsTask (task : FiniteDomainTask) : Type 0 where
  pub initial : IsState (ranges task) task.initial
  pub goal : IsAssignment (ranges task) task.goal
  pub operators : All (IsOperator (ranges task)) task.operators

-- whether a variable has too many values
abbrev pub has_long_range : List (List (List ℕ)) → Bool
has_long_range value_names = list_any (λ names. nat_lt max_values (length names)) value_names

-- the task exceeds no limit on variables, values of a variable, or operators
pub record IsWithinLimits (task : FiniteDomainTask) : Type 0 where
  pub variables : length task.value_names ≤ max_variables
  pub values : has_long_range task.value_names ≡ false
  pub operators : length task.operators ≤ max_operators

-- the limit is the first one that the task exceeds
abbrev pub IsPastLimit : FiniteDomainTask → TaskLimit → Type 0
IsPastLimit task Variables = max_variables < length task.value_names
IsPastLimit task Values = (length task.value_names ≤ max_variables) × (has_long_range task.value_names ≡ true)
IsPastLimit task Operators =
    (length task.value_names ≤ max_variables) × (has_long_range task.value_names ≡ false) × (max_operators < length task.operators)

-- the bytes of the names, from their representation in memory
abbrev pub names_in : {Y Z : Type 0} → List (Vec (String Z) Y) → List (List (List ℕ))
names_in value_names = map (λ names. map string_bytes names.items) value_names

-- the task with these parts, from their representation in memory
abbrev pub task_of : {Y Z : Type 0} → Bool → List (Vec (String Z) Y) → List ℕ → List Fact → List Operator → FiniteDomainTask
task_of metric value_names initial goal operators =
    record {
      metric = metric;
      value_names = names_in value_names;
      initial = initial;
      goal = goal;
      operators = operators;
    }

-- whether the variable has this value in the state
abbrev pub holds : List ℕ → Fact → Bool
holds state f = slice_index state f.variable == f.value

abbrev pub applies : Operator → List ℕ → Bool
applies op state = list_all (holds state) op.precondition

-- whether the operator with this number exists and applies
abbrev pub applies_at : FiniteDomainTask → ℕ → List ℕ → Bool
applies_at task o state = option_map_or (λ op. applies op state) (slice_get task.operators o) false

-- the state in which the variables of the facts have the facts' values
abbrev pub with_values : List Fact → List ℕ → List ℕ
with_values facts state = fold (λ s f. slice_set s f.variable f.value) state facts

-- the successor: each variable of the effect has the effect's value, and the others keep theirs
abbrev pub successor : Operator → List ℕ → List ℕ
successor op state = with_values op.effect state

abbrev pub is_goal_state : FiniteDomainTask → List ℕ → Bool
is_goal_state task state = list_all (holds state) task.goal

-- the successor under the operator with this number, if it exists and applies
abbrev pub step : FiniteDomainTask → List ℕ → ℕ → Option (List ℕ)
step task state o =
    option_and_then (λ op. if applies op state then Some (successor op state) else None) (slice_get task.operators o)

-- the state after a sequence of operators, if each of them applies in turn
abbrev pub state_after : FiniteDomainTask → List ℕ → List ℕ → Option (List ℕ)
state_after task state [] = Some state
state_after task state (o ∷ plan) = option_and_then (λ s. state_after task s plan) (step task state o)

-- the sequence of operators applies in the state and reaches a goal state
abbrev pub LeadsToGoal : FiniteDomainTask → List ℕ → List ℕ → Type 0
LeadsToGoal task state plan = IsSomeAnd (state_after task state plan) (λ s. is_goal_state task s ≡ true)

-- the sequence of operators, given by their numbers, applies in the initial state and reaches a goal state
abbrev pub IsPlan : FiniteDomainTask → List ℕ → Type 0
IsPlan task plan = LeadsToGoal task task.initial plan

-- the cost of an operator under the metric, and 1 without it
abbrev pub operator_cost : Bool → Operator → ℕ
operator_cost metric op = if metric then op.cost else 1

-- the cost of the operator with this number, and 0 if there is none
abbrev pub cost_of : FiniteDomainTask → ℕ → ℕ
cost_of task o = option_map_or (operator_cost task.metric) (slice_get task.operators o) 0

-- the sum of the costs of the operators
abbrev pub plan_cost : FiniteDomainTask → List ℕ → ℕ
plan_cost task plan = sum_by (cost_of task) plan

-- every plan costs at least the bound; if the bound is infinite, there is no plan
abbrev pub EveryPlanCostsAtLeast : FiniteDomainTask → Distance → Type 0
EveryPlanCostsAtLeast task bound = (plan : List ℕ) → IsPlan task plan → bound ≤ᵈ Finite (plan_cost task plan)

-- no sequence of operators is a plan
abbrev pub HasNoPlan : FiniteDomainTask → Type 0
HasNoPlan task = (plan : List ℕ) → IsPlan task plan → ⊥
