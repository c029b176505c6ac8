use Rattle.pddl_layout.proofs.FirstFaults.{earlier_decide}
use Rattle.pddl_layout.proofs.laws.earlier_passes_decide.Goals as goal

pub returns : goal.returns
returns c = earlier_decide
