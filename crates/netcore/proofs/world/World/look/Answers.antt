use Rattle.std.proofs.Common.{◌≡◌, ◌<◌, ◌∙◌, true, false, length, sym, arith}
use Rattle.std.proofs.lemmas.Bool.{not-true, not-false}
use Rattle.netcore.specs.Worlds.{differ}
use Rattle.netcore.proofs.Places.{at_here, at_some}
use Rattle.netcore.proofs.Bounding.{look_past, look_none, look_done, look_kept, same_or_differ, not_different}
use Rattle.netcore.proofs.world.World.look.Goals as goal

pub returns-then-worker-len : goal.returns-then-worker-len
returns-then-worker-len g c = rw (← c.self.view_is) (look_past g.S.Spread.owner _ c.args.worker (omega (arith, c.len.ensures, c.if-worker-len.true)))

pub returns-then-is_eq : goal.returns-then-is_eq
returns-then-is_eq g c =
    let lt : c.args.worker < length c.self.inside.owners.items = omega (arith, c.len.ensures, c.if-worker-len.false) in
    let (o, at) = at_some c.self.inside.owners.items c.args.worker lt in
    let b = c.index.result.now in
    let seen = at_here c.self.inside.seen.items c.args.worker b (omega (arith, lt, c.self.invariant.bounds)) c.index.ensures in
    let same : differ b c.self.inside.bound ≡ false = not-true _ (sym (same_or_differ b c.self.inside.bound) ∙ rw (c.cmp.ensures, c.if-is_eq.true) at (sym c.is_eq.ensures)) in
    rw (← c.self.view_is) (look_none g.S.Spread.owner _ c.args.worker o b at seen (not_different b c.self.inside.bound same))

pub invariant_of-self : goal.invariant_of-self
invariant_of-self g c =
    let lt : c.args.worker < length c.self.inside.owners.items = omega (arith, c.len.ensures, c.if-worker-len.false) in
    let (o, at) = at_some c.self.inside.owners.items c.args.worker lt in
    let b = c.index.result.now in
    let seen = at_here c.self.inside.seen.items c.args.worker b (omega (arith, lt, c.self.invariant.bounds)) c.index.ensures in
    let other : differ b c.self.inside.bound ≡ true = not-false _ (sym (same_or_differ b c.self.inside.bound) ∙ rw (c.cmp.ensures, c.if-is_eq.false) at (sym c.is_eq.ensures)) in
    look_kept g.S.Spread.owner _ c.args.worker o b c.self.invariant at seen other

pub returns : goal.returns
returns g c =
    let lt : c.args.worker < length c.self.inside.owners.items = omega (arith, c.len.ensures, c.if-worker-len.false) in
    let (o, at) = at_some c.self.inside.owners.items c.args.worker lt in
    let b = c.index.result.now in
    let seen = at_here c.self.inside.seen.items c.args.worker b (omega (arith, lt, c.self.invariant.bounds)) c.index.ensures in
    let other : differ b c.self.inside.bound ≡ true = not-false _ (sym (same_or_differ b c.self.inside.bound) ∙ rw (c.cmp.ensures, c.if-is_eq.false) at (sym c.is_eq.ensures)) in
    rw (← c.self.view_is) (look_done g.S.Spread.owner _ c.args.worker o b at seen other)
