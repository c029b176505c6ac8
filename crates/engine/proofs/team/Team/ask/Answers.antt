use Rattle.engine.proofs.Asking.{asked_team, asked_is}
use Rattle.engine.proofs.team.Team.ask.Goals as goal

pub invariant_of-result : goal.invariant_of-result
invariant_of-result g c =
    asked_team g.S.Spread.owner c.args.number
    (record { space = c.self.inside.space.now; workers = c.self.inside.workers.items; best = c.self.inside.best })
    c.expand_at.new.workers.items _ c.in_ok-refused.ensures c.self.invariant

pub returns : goal.returns
returns g c =
    rw (← c.self.view_is)
    (asked_is g.S.Spread.owner c.args.number
    (record { space = c.self.inside.space.now; workers = c.self.inside.workers.items; best = c.self.inside.best })
    c.expand_at.new.workers.items _ c.in_ok-refused.ensures)
