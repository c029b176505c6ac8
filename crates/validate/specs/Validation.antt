-- The verdict on a plan, step by step.
use Rattle.std.specs.Prelude.{ℕ, ◌+◌, List, [], ◌∷◌, Option, Some, None, find, not}
use Rattle.pddl_task.specs.Atoms.{State, Literal, Atom, contains, literal_holds}
use Rattle.pddl_task.specs.Planning.{PlanningTask, Action}
use Rattle.pddl_task.specs.Plans.{next_state}
use Rattle.validate.specs.Steps.{Step, action_named}
use Rattle.validate.specs.States.{added, without}
use Rattle.validate.specs.declared.verdict.Verdict.{Verdict}
use Rattle.validate.specs.declared.verdict.Verdict.TheVariants.{Valid, NoSuchAction, NotApplicable, GoalOpen}

-- the first literal that does not hold
abbrev pub first_failing : State → List Literal → Option Literal
first_failing state literals = find (λ l. not (literal_holds state l)) literals

-- the state with all of these atoms added, in order
abbrev pub with_all : State → List Atom → State
with_all state [] = state
with_all state (p ∷ ps) = with_all (added state p) ps

-- the state with all of these atoms removed, in order
abbrev pub without_all : State → List Atom → State
without_all state [] = state
without_all state (p ∷ ps) = without_all (without state p) ps

-- the verdict after the last step, from the first literal of the goal that does not hold
abbrev pub at_end : ℕ → Option Literal → Verdict
at_end cost None = Valid cost
at_end cost (Some l) = GoalOpen l

-- the verdict at a step with an action, from the first literal of its precondition that does not hold and the verdict
-- on the remaining steps
abbrev pub at_precondition : ℕ → Option Literal → Verdict → Verdict
at_precondition number None behind = behind
at_precondition number (Some l) behind = NotApplicable number l

-- the verdict at a step, from its action and the verdict on the remaining steps
abbrev pub at_step : ℕ → State → (Action → Verdict) → Option Action → Verdict
at_step number state behind None = NoSuchAction number
at_step number state behind (Some a) = at_precondition number (first_failing state a.precondition) (behind a)

-- the verdict from a state with this cost so far; the first of the steps has this number
abbrev pub verdict_from : PlanningTask → List Step → ℕ → State → ℕ → Verdict
verdict_from task [] number state cost = at_end cost (first_failing state task.goal)
verdict_from task (s ∷ steps) number state cost =
    at_step number state (λ a. verdict_from task steps (number + 1) (next_state state a) (cost + a.cost)) (action_named task s)

-- the verdict from the initial state
abbrev pub verdict_of : PlanningTask → List Step → Verdict
verdict_of task steps = verdict_from task steps 1 (contains task.initial) 0
