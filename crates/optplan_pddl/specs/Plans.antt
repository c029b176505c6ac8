-- The plan of a planning task, as steps of words, and the operators of the task's translation.
use Rattle.std.specs.Prelude.{ℕ, not, List, map}
use Rattle.pddl_task.specs.Planning.{PlanningTask, Vocabulary, Action}
use Rattle.validate.specs.Steps.{Step}
use Rattle.validate.specs.Written.{name_of, plan_text_of}

-- the step that names the action
abbrev pub step_of : Vocabulary → Action → Step
step_of names a = record { name = name_of names.schemas a.schema; arguments = map (name_of names.objects) a.objects }

-- the text of the plan of these actions, at this cost
abbrev pub text_of_plan : PlanningTask → List Action → ℕ → List ℕ
text_of_plan task plan cost = plan_text_of (map (step_of task.vocabulary) plan) cost (not task.metric)
