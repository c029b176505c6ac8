use Rattle.std.proofs.Common.{◌<◌, ◌∙◌, length, arith}
use Rattle.netcore.proofs.Places.{at_here, at_some}
use Rattle.netcore.proofs.Changing.{sends_counted}
use Rattle.netcore.proofs.world.World.send_count_of.Goals as goal

pub returns : goal.returns
returns g c =
    let lt : c.args.worker < length c.self.inside.owners.items = rw (← c.self.view_is) at c.requires in
    let at = at_here c.self.inside.owners.items c.args.worker c.index.result.now lt c.index.ensures in
    let (b, seen) = at_some c.self.inside.seen.items c.args.worker (omega (arith, lt, c.self.invariant.bounds)) in
    rw (← c.self.view_is)
    (c.outboxes_in_use.ensures ∙ sends_counted g.S.Spread.owner _ c.args.worker c.index.result.now b c.self.invariant at seen)
