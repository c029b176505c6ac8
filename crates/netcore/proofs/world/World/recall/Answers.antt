use Rattle.std.proofs.Common.{subst}
use Rattle.netcore.specs.Worlds.{WorldOf}
use Rattle.netcore.specs.Kept.{IsWorld}
use Rattle.netcore.proofs.world.World.recall.Goals as goal

pub returns-clause-run : goal.returns-clause-run
returns-clause-run g c = (subst (λ (w : WorldOf g.row.S.Denot). IsWorld g.S.Spread.owner w) c.self.view_is c.self.invariant).run

pub returns-clause-filled : goal.returns-clause-filled
returns-clause-filled g c =
    let is = subst (λ (w : WorldOf g.row.S.Denot). IsWorld g.S.Spread.owner w) c.self.view_is c.self.invariant in
    record { queues = is.queues; bounds = is.bounds; flags = is.flags }
