use Rattle.std.proofs.Common.{refl}
use Rattle.fdr.specs.Tasks.{ranges}
use Rattle.engine.proofs.Emptying.{team_drained}
use Rattle.engine.proofs.team.Team.drain.Goals as goal

pub empty_all-requires : goal.empty_all-requires
empty_all-requires g c = (c.self.inside.space.now, c.self.invariant.members)

pub invariant_of-result : goal.invariant_of-result
invariant_of-result g c =
    (team_drained g.S.Spread.owner (g.F.StateForm.values (ranges c.self.inside.space.now.task)) g.F.StateForm.values
    (record { space = c.self.inside.space.now; workers = c.self.inside.workers.items; best = c.self.inside.best })
    (record { space = c.self.inside.space.now; workers = c.empty_all.new.workers.items; best = c.self.inside.best })
    refl c.self.invariant (c.in_ok-empty_all.ensures c.self.inside.space.now c.self.invariant.members) refl refl).0

pub returns : goal.returns
returns g c =
    rw (← c.self.view_is)
    ((team_drained g.S.Spread.owner (g.F.StateForm.values (ranges c.self.inside.space.now.task)) g.F.StateForm.values
    (record { space = c.self.inside.space.now; workers = c.self.inside.workers.items; best = c.self.inside.best })
    (record { space = c.self.inside.space.now; workers = c.empty_all.new.workers.items; best = c.self.inside.best })
    refl c.self.invariant (c.in_ok-empty_all.ensures c.self.inside.space.now c.self.invariant.members) refl refl).1)
