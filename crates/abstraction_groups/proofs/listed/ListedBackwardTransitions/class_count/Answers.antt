use Rattle.abstraction_groups.proofs.listed.ListedBackwardTransitions.class_count.Goals as goal

pub returns : goal.returns
returns g c = rw (← c.self.view_is) c.len.ensures
