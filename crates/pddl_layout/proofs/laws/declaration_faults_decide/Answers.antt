use Rattle.pddl_layout.proofs.FirstFaults.{declarations_decide}
use Rattle.pddl_layout.proofs.laws.declaration_faults_decide.Goals as goal

pub returns : goal.returns
returns c = declarations_decide
