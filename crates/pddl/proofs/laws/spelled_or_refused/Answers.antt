use Rattle.pddl.proofs.TaskTexts.{spelled_or_refused_is}
use Rattle.pddl.proofs.laws.spelled_or_refused.Goals as goal

pub returns : goal.returns
returns c = spelled_or_refused_is
