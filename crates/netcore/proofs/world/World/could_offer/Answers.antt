use Rattle.std.proofs.Common.{◌<◌, ◌∙◌, length, arith}
use Rattle.netcore.proofs.Places.{at_here, at_some}
use Rattle.netcore.proofs.Changing.{less, offer_test}
use Rattle.netcore.proofs.world.World.could_offer.Goals as goal

pub returns : goal.returns
returns g c =
    let lt : c.args.worker < length c.self.inside.owners.items = omega (arith, c.len.ensures, c.if-worker-len.false) in
    let o = c.index.result.now in
    let at = at_here c.self.inside.owners.items c.args.worker o lt c.index.ensures in
    let (b, seen) = at_some c.self.inside.seen.items c.args.worker (omega (arith, lt, c.self.invariant.bounds)) in
    rw (← c.self.view_is, c.lt.ensures, c.best_goal.ensures)
    (less o.best c.self.inside.bound ∙ offer_test g.S.Spread.owner _ c.args.worker o b c.self.invariant at seen)
