use Rattle.abstraction_groups.proofs.listed.ListedBackwardTransitions.operators_of.Goals as goal

pub operators_of-requires : goal.operators_of-requires
operators_of-requires g c = rw (← c.self.view_is) at c.requires

pub returns-clause-operators : goal.returns-clause-operators
returns-clause-operators g c o = rw (← c.self.view_is) (c.operators_of.ensures.operators o)
