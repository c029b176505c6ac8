use Rattle.mutex_index.proofs.GroupLaws.{constant_along}
use Rattle.mutex_index.proofs.laws.constants_stay_true.Goals as goal

pub returns : goal.returns
returns c task actions p constant plan state listed run = constant_along task actions plan state listed run p constant
