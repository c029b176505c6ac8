use Rattle.mutex_index.proofs.GroupLaws.{one_along, some_along}
use Rattle.mutex_index.proofs.laws.groups_are_exclusive.Goals as goal

pub returns-clause-one : goal.returns-clause-one
returns-clause-one c task actions group usable plan state listed run = one_along task actions plan state listed run group usable

pub returns-clause-some : goal.returns-clause-some
returns-clause-some c task actions group full plan state listed run = some_along task actions plan state listed run group full
