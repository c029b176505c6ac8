use Rattle.abstraction_groups.proofs.groups.Groups.transition_count.Goals as goal

pub returns : goal.returns
returns g c = rw (← c.self.view_is) c.self.invariant.2
