use Rattle.owner_theory.proofs.Plans.{parents_fall, walk_ends, follows_lead}
use Rattle.owner_theory.proofs.laws.parents_lead_back.Goals as goal

pub returns-clause-fall : goal.returns-clause-fall
returns-clause-fall c = parents_fall

pub returns-clause-ends : goal.returns-clause-ends
returns-clause-ends c = walk_ends

pub returns-clause-leads : goal.returns-clause-leads
returns-clause-leads c = follows_lead
