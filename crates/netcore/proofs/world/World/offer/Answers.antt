use Rattle.std.proofs.Common.{◌≡◌, ◌<◌, ◌∙◌, ap, true, false, length, sym, arith}
use Rattle.std.specs.Ordering.{is_ge}
use Rattle.std.proofs.lemmas.Bool.{not-true, not-false}
use Rattle.cost.specs.Distances.{distance_cmp}
use Rattle.netcore.proofs.Places.{at_here, at_some}
use Rattle.netcore.proofs.Bounding.{offer_past, offer_none, offer_done, offer_kept, not_less}
use Rattle.netcore.proofs.world.World.offer.Goals as goal

pub returns-then-worker-len : goal.returns-then-worker-len
returns-then-worker-len g c =
    rw (← c.self.view_is) (offer_past g.S.Spread.owner _ c.args.worker (omega (arith, c.len.ensures, c.if-worker-len.true)))

pub returns-then-ge : goal.returns-then-ge
returns-then-ge g c =
    let lt : c.args.worker < length c.self.inside.owners.items = omega (arith, c.len.ensures, c.if-worker-len.false) in
    let o = c.index.result.now in
    let at = at_here c.self.inside.owners.items c.args.worker o lt c.index.ensures in
    let (b, seen) = at_some c.self.inside.seen.items c.args.worker (omega (arith, lt, c.self.invariant.bounds)) in
    let ge : is_ge (distance_cmp o.best c.self.inside.bound) ≡ true =
    ap (λ d. is_ge (distance_cmp d c.self.inside.bound)) (sym c.best_goal-best.ensures) ∙ (sym c.ge.ensures ∙ c.if-ge.true) in
    rw (← c.self.view_is) (offer_none g.S.Spread.owner _ c.args.worker o b at seen (not-true _ (sym (not_less o.best c.self.inside.bound) ∙ ge)))

pub invariant_of-self : goal.invariant_of-self
invariant_of-self g c =
    let lt : c.args.worker < length c.self.inside.owners.items = omega (arith, c.len.ensures, c.if-worker-len.false) in
    let o = c.index.result.now in
    let at = at_here c.self.inside.owners.items c.args.worker o lt c.index.ensures in
    let (b, seen) = at_some c.self.inside.seen.items c.args.worker (omega (arith, lt, c.self.invariant.bounds)) in
    let ge : is_ge (distance_cmp o.best c.self.inside.bound) ≡ false =
    ap (λ d. is_ge (distance_cmp d c.self.inside.bound)) (sym c.best_goal-best.ensures) ∙ (sym c.ge.ensures ∙ c.if-ge.false) in
    rw c.best_goal-best.ensures
    (offer_kept g.S.Spread.owner _ c.args.worker o b c.self.invariant at seen (not-false _ (sym (not_less o.best c.self.inside.bound) ∙ ge)))

pub returns : goal.returns
returns g c =
    let lt : c.args.worker < length c.self.inside.owners.items = omega (arith, c.len.ensures, c.if-worker-len.false) in
    let o = c.index.result.now in
    let at = at_here c.self.inside.owners.items c.args.worker o lt c.index.ensures in
    let (b, seen) = at_some c.self.inside.seen.items c.args.worker (omega (arith, lt, c.self.invariant.bounds)) in
    let ge : is_ge (distance_cmp o.best c.self.inside.bound) ≡ false =
    ap (λ d. is_ge (distance_cmp d c.self.inside.bound)) (sym c.best_goal-best.ensures) ∙ (sym c.ge.ensures ∙ c.if-ge.false) in
    rw (← c.self.view_is, c.best_goal-best.ensures)
    (offer_done g.S.Spread.owner _ c.args.worker o b at seen (not-false _ (sym (not_less o.best c.self.inside.bound) ∙ ge)))
