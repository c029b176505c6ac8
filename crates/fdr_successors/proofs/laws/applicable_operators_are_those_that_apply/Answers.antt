use Rattle.fdr_successors.proofs.Numbers.{all_increase, all_apply, all_found}
use Rattle.fdr_successors.proofs.laws.applicable_operators_are_those_that_apply.Goals as goal

pub returns-clause-increasing : goal.returns-clause-increasing
returns-clause-increasing c = all_increase

pub returns-clause-sound : goal.returns-clause-sound
returns-clause-sound c = all_apply

pub returns-clause-complete : goal.returns-clause-complete
returns-clause-complete c = all_found
