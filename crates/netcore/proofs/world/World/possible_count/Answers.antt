use Rattle.std.proofs.Common.{◌-◌, ◌^◌, ◌∙◌, ap, sym, min, length, arith}
use Rattle.std.specs.Prelude.{flat_map}
use Rattle.netcore.specs.declared.step.WorldStep.TheVariants.{Expand, Offer, Look, Rest}
use Rattle.netcore.specs.Possible.{by_owner, sends_of, deliveries, below}
use Rattle.netcore.proofs.Choosing.{six_counts, six_lengths}
use Rattle.netcore.proofs.world.World.possible_count.Goals as goal

pub returns : goal.returns
returns g c =
    let w = c.args.self.now in
    let a = by_owner g.S.Spread.owner w Expand in
    let b = flat_map (sends_of g.S.Spread.owner w) (below (length w.owners)) in
    let d = deliveries 0 w.underway in
    let e = by_owner g.S.Spread.owner w Offer in
    let f = by_owner g.S.Spread.owner w Look in
    let h = by_owner g.S.Spread.owner w Rest in
    six_counts (2 ^ 128 - 1) (length a) (length b) (length d) (length e) (length f) (length h) c.send_count.result c.delivery_count.result
    c.saturating_add.result c.saturating_add-2.result c.saturating_add-3.result c.saturating_add-4.result c.saturating_add-5.result
    c.send_count.ensures c.delivery_count.ensures
    (omega (arith, c.saturating_add.ensures, c.own_count.ensures)) c.saturating_add-2.ensures
    (omega (arith, c.saturating_add-3.ensures, c.own_count-2.ensures)) (omega (arith, c.saturating_add-4.ensures, c.own_count-3.ensures))
    (omega (arith, c.saturating_add-5.ensures, c.own_count-4.ensures))
    ∙ ap (λ n. min n (2 ^ 128 - 1)) (sym (six_lengths a b d e f h))
