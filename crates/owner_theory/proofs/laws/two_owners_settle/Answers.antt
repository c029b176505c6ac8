use Rattle.std.proofs.Common.{refl}
use Rattle.owner_theory.specs.Owners.{same_state, may_expand}
use Rattle.owner_theory.proofs.laws.two_owners_settle.Goals as goal

pub returns-clause-quiet : goal.returns-clause-quiet
unfolding same_state may_expand
returns-clause-quiet c = refl

pub returns-clause-best : goal.returns-clause-best
unfolding same_state may_expand
returns-clause-best c = refl
