use Rattle.pddl.proofs.TaskTexts.{one_task_is}
use Rattle.pddl.proofs.laws.one_task.Goals as goal

pub returns : goal.returns
returns c = one_task_is
