use Rattle.closed.proofs.Reached.{outcome_of-New, outcome_of-Better, outcome_of-Kept}
use Rattle.closed.proofs.laws.outcomes_tell.Goals as goal

pub returns-clause-new : goal.returns-clause-new
returns-clause-new c = outcome_of-New

pub returns-clause-better : goal.returns-clause-better
returns-clause-better c = outcome_of-Better

pub returns-clause-kept : goal.returns-clause-kept
returns-clause-kept c = outcome_of-Kept
