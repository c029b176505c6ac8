use Rattle.std.proofs.Common.{refl}
use Rattle.mutex.specs.Candidates.{proposed_groups}
use Rattle.mutex.proofs.laws.worked_balls.Goals as goal

pub returns-clause-candidates : goal.returns-clause-candidates
returns-clause-candidates c = refl

pub returns-clause-groups : goal.returns-clause-groups
unfolding proposed_groups
returns-clause-groups c = refl
