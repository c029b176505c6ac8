use Rattle.std.proofs.Common.{◌<◌, ◌∙◌, length, arith}
use Rattle.netcore.proofs.Places.{at_here}
use Rattle.netcore.proofs.Changing.{less, expand_test}
use Rattle.netcore.proofs.world.World.could_expand.Goals as goal

pub returns : goal.returns
returns g c =
    let lt : c.args.worker < length c.self.inside.owners.items = omega (arith, c.len.ensures, c.if-worker-len.false) in
    let o = c.index.result.now in
    let b = c.index-2.result.now in
    let at = at_here c.self.inside.owners.items c.args.worker o lt c.index.ensures in
    let seen = at_here c.self.inside.seen.items c.args.worker b (omega (arith, lt, c.self.invariant.bounds)) c.index-2.ensures in
    rw (← c.self.view_is, c.lt.ensures, c.least_open.ensures) (less _ b ∙ expand_test g.S.Spread.owner _ c.args.worker o b c.self.invariant at seen)
