use Rattle.pddl.proofs.TaskTexts.{one_refusal_is}
use Rattle.pddl.proofs.laws.one_refusal.Goals as goal

pub returns : goal.returns
returns c = one_refusal_is
