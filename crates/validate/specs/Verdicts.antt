-- The verdict on a plan: its cost if it is valid, or its first step that is not applicable, or a literal of the goal
-- that does not hold at its end.
use Rattle.std.specs.Prelude.{◌≡◌, ℕ, ◌+◌, ◌≤◌, true, false, List, ◌∷◌, ◌++◌, length, Some, None}
use Rattle.pddl_task.specs.Atoms.{State, Literal, contains, literal_holds, satisfies}
use Rattle.pddl_task.specs.Planning.{PlanningTask, Action, IsActionOf}
use Rattle.pddl_task.specs.Plans.{state_after, IsValidPlan, total_cost}
use Rattle.validate.specs.Steps.{Step, action_named, AreActionsOf}
use Rattle.validate.specs.declared.verdict.Verdict.{Verdict}
use Rattle.validate.specs.declared.verdict.Verdict.TheVariants.{Valid, NoSuchAction, NotApplicable, GoalOpen}

-- the literal is the first of these literals that does not hold
pub record IsFirstFailing (state : State) (literals : List Literal) (l : Literal) : Type 0 where
  pub before : List Literal
  pub after : List Literal
  pub parts : literals ≡ before ++ l ∷ after
  pub hold : satisfies state before ≡ true
  pub fails : literal_holds state l ≡ false

-- the steps name actions that are applicable in turn from the initial state and reach this state
pub record LeadTo (task : PlanningTask) (steps : List Step) (state : State) : Type 0 where
  pub plan : List Action
  pub named : AreActionsOf task steps plan
  pub run : state_after (contains task.initial) plan ≡ Some state

-- The steps before the one with this number, counted from 1, reach a state in which that step is wrong.
pub record FailsAt (task : PlanningTask) (steps : List Step) (number : ℕ) (IsWrong : State → Step → Type 0) : Type 0 where
  pub before : List Step
  pub step : Step
  pub after : List Step
  pub parts : steps ≡ before ++ step ∷ after
  pub number_is : number ≡ length before + 1
  pub state : State
  pub led : LeadTo task before state
  pub wrong : IsWrong state step

-- the verdict is the correct one for the plan with these steps
abbrev pub IsVerdict : PlanningTask → List Step → Verdict → Type 0
IsVerdict task steps (Valid cost) = (plan : List Action) × AreActionsOf task steps plan × IsValidPlan task plan × (total_cost plan ≡ cost)
IsVerdict task steps (NoSuchAction number) = FailsAt task steps number (λ state step. action_named task step ≡ None)
IsVerdict task steps (NotApplicable number l) =
    FailsAt task steps number (λ state step. (a : Action) × (action_named task step ≡ Some a) × IsFirstFailing state a.precondition l)
IsVerdict task steps (GoalOpen l) = (state : State) × LeadTo task steps state × IsFirstFailing state task.goal l

-- the number is an upper bound on the costs of all ground actions of the task
unfoldable pub CostsAtMost : PlanningTask → ℕ → Type 0
CostsAtMost task limit = (a : Action) → IsActionOf task a → a.cost ≤ limit
