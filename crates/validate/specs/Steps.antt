-- The steps of a plan by their names, and the actions that they name in a task.
use Rattle.std.specs.Prelude.{◌≡◌, ℕ, List, [], ◌∷◌, Option, Some, None, option_and_then}
use Rattle.pddl_names.specs.Names.{place_of}
use Rattle.pddl_task.specs.Planning.{PlanningTask, Action, action_of}

-- the name of a schema and the names of objects
pub record Step : Type 0 where
  pub name : List ℕ
  pub arguments : List (List ℕ)

abbrev pub with_number : Option ℕ → Option (List ℕ) → Option (List ℕ)
with_number (Some n) (Some ns) = Some (n ∷ ns)
with_number (Some n) None = None
with_number None ns = None

-- the numbers of the objects with these names, if all exist
abbrev pub numbers_of : List (List ℕ) → List (List ℕ) → Option (List ℕ)
numbers_of names [] = Some []
numbers_of names (t ∷ ts) = with_number (place_of names t) (numbers_of names ts)

-- The ground action that a step names. There is none if no schema has the name, if the number of arguments differs from
-- that of the parameters, if an object does not exist or does not have its parameter's type, if an equality condition
-- fails or if, under the metric, an increase has no amount.
abbrev pub action_named : PlanningTask → Step → Option Action
action_named task step =
    option_and_then
    (λ schema. option_and_then (action_of task schema) (numbers_of task.vocabulary.objects step.arguments))
    (place_of task.vocabulary.schemas step.name)

-- each step names its action
abbrev pub AreActionsOf : PlanningTask → List Step → List Action → Type 0
AreActionsOf task [] [] = Unit {0}
AreActionsOf task [] (a ∷ plan) = ⊥
AreActionsOf task (s ∷ steps) [] = ⊥
AreActionsOf task (s ∷ steps) (a ∷ plan) = (action_named task s ≡ Some a) × AreActionsOf task steps plan
