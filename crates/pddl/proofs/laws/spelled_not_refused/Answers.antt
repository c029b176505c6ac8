use Rattle.pddl.proofs.TaskTexts.{spelled_not_refused_is}
use Rattle.pddl.proofs.laws.spelled_not_refused.Goals as goal

pub returns : goal.returns
returns c = spelled_not_refused_is
