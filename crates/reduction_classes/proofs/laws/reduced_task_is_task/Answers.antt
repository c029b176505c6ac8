use Rattle.reduction_classes.proofs.Runs.{reduced_is_task}
use Rattle.reduction_classes.proofs.laws.reduced_task_is_task.Goals as goal

pub returns : goal.returns
returns c task classes well fit = reduced_is_task task classes fit task.operators well well.operators
