-- Plans of a planning task, and the states that they reach.
use Rattle.std.specs.Prelude.{◌≡◌, ℕ, ◌≤◌, Bool, true, ◌&&◌, ◌||◌, not, if◌then◌else◌, List, [], ◌∷◌, Option, Some, None, IsSomeAnd, sum_by, All}
use Rattle.pddl_task.specs.Atoms.{State, contains, satisfies}
use Rattle.pddl_task.specs.Planning.{PlanningTask, Action, IsActionOf}

-- every literal of the precondition holds in the state
abbrev pub is_applicable : State → Action → Bool
is_applicable state a = satisfies state a.precondition

-- the state after an action: without the atoms that it deletes, and with those that it adds; an atom that is both is
-- true
abbrev pub next_state : State → Action → State
next_state state a p = contains a.adds p || (state p && not (contains a.deletes p))

-- the state after a list of actions, if each is applicable in turn
abbrev pub state_after : State → List Action → Option State
state_after state [] = Some state
state_after state (a ∷ plan) = if is_applicable state a then state_after (next_state state a) plan else None

-- each action is applicable in turn, and the goal holds at the end
abbrev pub LeadsToGoal : PlanningTask → State → List Action → Type 0
LeadsToGoal task state plan = IsSomeAnd (state_after state plan) (λ s. satisfies s task.goal ≡ true)

-- a list of ground actions of the task that is applicable in the initial state and reaches a state that satisfies the
-- goal
pub record IsValidPlan (task : PlanningTask) (plan : List Action) : Type 0 where
  pub actions : All (IsActionOf task) plan
  pub goal : LeadsToGoal task (contains task.initial) plan

-- a list of ground actions of the task that is applicable in the initial state and reaches this state
pub record IsReachedBy (task : PlanningTask) (plan : List Action) (state : State) : Type 0 where
  pub actions : All (IsActionOf task) plan
  pub run : state_after (contains task.initial) plan ≡ Some state

-- the sum of the costs of the actions
abbrev pub total_cost : List Action → ℕ
total_cost plan = sum_by (λ a. a.cost) plan

-- the number is a lower bound on the costs of all valid plans
abbrev pub EveryValidPlanCostsAtLeast : PlanningTask → ℕ → Type 0
EveryValidPlanCostsAtLeast task bound = (plan : List Action) → IsValidPlan task plan → bound ≤ total_cost plan

-- no list of actions is a valid plan
abbrev pub HasNoValidPlan : PlanningTask → Type 0
HasNoValidPlan task = (plan : List Action) → IsValidPlan task plan → ⊥
