use Rattle.reduction_certs.proofs.InTasks.{held_in_task}
use Rattle.reduction_certs.proofs.Texts.{lawful_in_task}
use Rattle.reduction_certs.proofs.laws.certificates_of_reduced_tasks.Goals as goal

pub returns-clause-held : goal.returns-clause-held
returns-clause-held _ task classes retained representatives c well is are none numbered held = held_in_task task classes retained representatives well is are c none numbered held

pub returns-clause-lawful : goal.returns-clause-lawful
returns-clause-lawful _ task classes retained representatives c well limits is are version lawful =
    lawful_in_task task well limits classes is.classes_by.fit is.classes_by.numbered representatives are.as_many c version lawful
