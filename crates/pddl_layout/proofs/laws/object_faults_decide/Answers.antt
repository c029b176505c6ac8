use Rattle.pddl_layout.proofs.FirstFaults.{objects_decide}
use Rattle.pddl_layout.proofs.laws.object_faults_decide.Goals as goal

pub returns : goal.returns
returns c = objects_decide
