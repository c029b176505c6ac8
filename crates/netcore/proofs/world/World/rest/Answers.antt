use Rattle.std.proofs.Common.{◌<◌, ◌∙◌, ap, subst, length, sym, arith}
use Rattle.owner_theory.specs.Owners.{At}
use Rattle.owner_theory.specs.Worlds.{idle}
use Rattle.owner.specs.Owned.{under}
use Rattle.netcore.proofs.Places.{at_here, at_some}
use Rattle.netcore.proofs.Expanding.{owner_space}
use Rattle.netcore.proofs.Bounding.{rest_past, rest_again, rest_busy, rest_done, rest_kept}
use Rattle.netcore.proofs.world.World.rest.Goals as goal

pub returns-then-worker-len : goal.returns-then-worker-len
returns-then-worker-len g c = rw (← c.self.view_is)
    (rest_past g.S.Spread.owner _ c.args.worker c.self.invariant.flags (omega (arith, c.len.ensures, c.if-worker-len.true)))

pub returns-then-index : goal.returns-then-index
returns-then-index g c =
    let lt : c.args.worker < length c.self.inside.owners.items = omega (arith, c.len.ensures, c.if-worker-len.false) in
    let (o, at) = at_some c.self.inside.owners.items c.args.worker lt in
    let (b, seen) = at_some c.self.inside.seen.items c.args.worker (omega (arith, lt, c.self.invariant.bounds)) in
    let flag = at_here c.self.inside.resting.items c.args.worker c.index.result.now (omega (arith, lt, c.self.invariant.flags)) c.index.ensures in
    rw (← c.self.view_is)
    (rest_again g.S.Spread.owner _ c.args.worker o b at seen (subst (λ r. At c.self.inside.resting.items c.args.worker r) c.if-index.true flag))

pub returns-then-not-is_idle : goal.returns-then-not-is_idle
returns-then-not-is_idle g c =
    let lt : c.args.worker < length c.self.inside.owners.items = omega (arith, c.len.ensures, c.if-worker-len.false) in
    let o = c.index-2.result.now in
    let b = c.index-3.result.now in
    let at = at_here c.self.inside.owners.items c.args.worker o lt c.index-2.ensures in
    let seen = at_here c.self.inside.seen.items c.args.worker b (omega (arith, lt, c.self.invariant.bounds)) c.index-3.ensures in
    rw (← c.self.view_is)
    (rest_busy g.S.Spread.owner _ c.args.worker o b at seen
    (ap (λ s. idle s (under o b)) (sym (owner_space g.S.Spread.owner _ c.args.worker o c.self.invariant at)) ∙ (sym c.is_idle.ensures ∙ c.if-not-is_idle.true)))

pub invariant_of-self : goal.invariant_of-self
invariant_of-self g c =
    let lt : c.args.worker < length c.self.inside.owners.items = omega (arith, c.len.ensures, c.if-worker-len.false) in
    let o = c.index-2.result.now in
    let b = c.index-3.result.now in
    let at = at_here c.self.inside.owners.items c.args.worker o lt c.index-2.ensures in
    let seen = at_here c.self.inside.seen.items c.args.worker b (omega (arith, lt, c.self.invariant.bounds)) c.index-3.ensures in
    let flag = at_here c.self.inside.resting.items c.args.worker c.index.result.now (omega (arith, lt, c.self.invariant.flags)) c.index.ensures in
    rest_kept g.S.Spread.owner _ c.args.worker o b c.self.invariant at seen
    (subst (λ r. At c.self.inside.resting.items c.args.worker r) c.if-index.false flag)
    (ap (λ s. idle s (under o b)) (sym (owner_space g.S.Spread.owner _ c.args.worker o c.self.invariant at)) ∙ (sym c.is_idle.ensures ∙ c.if-not-is_idle.false))

pub returns : goal.returns
returns g c =
    let lt : c.args.worker < length c.self.inside.owners.items = omega (arith, c.len.ensures, c.if-worker-len.false) in
    let o = c.index-2.result.now in
    let b = c.index-3.result.now in
    let at = at_here c.self.inside.owners.items c.args.worker o lt c.index-2.ensures in
    let seen = at_here c.self.inside.seen.items c.args.worker b (omega (arith, lt, c.self.invariant.bounds)) c.index-3.ensures in
    let flag = at_here c.self.inside.resting.items c.args.worker c.index.result.now (omega (arith, lt, c.self.invariant.flags)) c.index.ensures in
    rw (← c.self.view_is)
    (rest_done g.S.Spread.owner _ c.args.worker o b at seen
    (subst (λ r. At c.self.inside.resting.items c.args.worker r) c.if-index.false flag)
    (ap (λ s. idle s (under o b)) (sym (owner_space g.S.Spread.owner _ c.args.worker o c.self.invariant at)) ∙ (sym c.is_idle.ensures ∙ c.if-not-is_idle.false)))
