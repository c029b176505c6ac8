use Rattle.fdr.specs.Tasks.{ranges}
use Rattle.netcore.proofs.Ending.{form_of, joined_same}
use Rattle.netcore.proofs.world.World.settled.Goals as goal

pub settled_bound-requires : goal.settled_bound-requires
settled_bound-requires g c =
    rw (c.deref.ensures.value, c.deref-2.ensures.value, ← joined_same (g.F.StateForm.values (ranges c.self.inside.space.now.task)) c.self.inside.underway.items) (form_of g.S.Spread.owner _ c.self.invariant)

pub returns : goal.returns
returns g c =
    rw (← c.self.view_is, joined_same (g.F.StateForm.values (ranges c.self.inside.space.now.task)) c.self.inside.underway.items)
    (rw (c.deref.ensures.value, c.deref-2.ensures.value) at c.settled_bound.ensures)
