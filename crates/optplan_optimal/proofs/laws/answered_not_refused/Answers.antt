use Rattle.optplan_optimal.proofs.Unrefused.{answered_not_refused}
use Rattle.optplan_optimal.proofs.laws.answered_not_refused.Goals as goal

pub returns : goal.returns
returns c = answered_not_refused
