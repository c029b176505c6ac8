use Rattle.std.proofs.Common.{◌<◌, ◌∙◌, subst, length, arith}
use Rattle.owner_theory.specs.Owners.{At}
use Rattle.netcore.proofs.Places.{at_here}
use Rattle.netcore.proofs.Changing.{rest_test}
use Rattle.netcore.proofs.world.World.could_rest.Goals as goal

pub returns : goal.returns
returns g c =
    let lt : c.args.worker < length c.self.inside.owners.items = omega (arith, c.len.ensures, c.if-worker-len.false) in
    let o = c.index-2.result.now in
    let b = c.index-3.result.now in
    let at = at_here c.self.inside.owners.items c.args.worker o lt c.index-2.ensures in
    let seen = at_here c.self.inside.seen.items c.args.worker b (omega (arith, lt, c.self.invariant.bounds)) c.index-3.ensures in
    let flag = at_here c.self.inside.resting.items c.args.worker c.index.result.now (omega (arith, lt, c.self.invariant.flags)) c.index.ensures in
    rw (← c.self.view_is)
    (c.is_idle.ensures ∙ rest_test g.S.Spread.owner _ c.args.worker o b c.self.invariant at seen
    (subst (λ r. At c.self.inside.resting.items c.args.worker r) c.if-index.false flag))
