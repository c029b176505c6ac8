use Rattle.line_laws.proofs.SasPromises.{spelled_is_task_is}
use Rattle.line_laws.proofs.sas.spelled_is_task.Goals as goal

pub returns : goal.returns
returns c = spelled_is_task_is
