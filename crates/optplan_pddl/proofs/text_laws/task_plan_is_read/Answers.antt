use Rattle.optplan_pddl.proofs.TextPromises.{task_plan_by}
use Rattle.optplan_pddl.proofs.text_laws.task_plan_is_read.Goals as goal

pub returns : goal.returns
returns c = task_plan_by
