use Rattle.mutex.proofs.ProposalLaws.{distinct_groups}
use Rattle.mutex.proofs.group_list.Groups.as_slice.Goals as goal

pub returns-clause-distinct : goal.returns-clause-distinct
returns-clause-distinct c = rw (← c.self.view_is) (distinct_groups c.self.inside.set.keys c.as_slice.ensures.unique)
