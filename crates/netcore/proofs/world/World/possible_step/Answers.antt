use Rattle.std.proofs.Common.{◌≡◌, ◌-◌, ◌^◌, ◌++◌, ◌∙◌, ap, sym, None, length, arith}
use Rattle.std.specs.Prelude.{flat_map, slice_get}
use Rattle.fdr.specs.Tasks.{ranges}
use Rattle.netcore.specs.declared.step.WorldStep.TheVariants.{Expand, Offer, Look, Rest}
use Rattle.netcore.specs.Possible.{by_owner, sends_of, deliveries, below}
use Rattle.netcore.proofs.Choosing.{none_past, six_parts, fourth_part}
use Rattle.netcore.proofs.world.World.possible_step.Goals as goal

pub overflow_sub-number-3 : goal.overflow_sub-number-3
overflow_sub-number-3 g c =
    let none : slice_get (deliveries 0 c.args.self.now.underway) (c.args.number - c.own_count.result - c.send_count.result) ≡ None =
    rw (← c.self.view_is) (rw c.deref.ensures.value at (sym (c.nth_delivery.ensures (g.F.StateForm.values (ranges c.self.inside.space.now.task))) ∙ c.in_default-nth_delivery.is)) in
    omega (arith, none_past (deliveries 0 c.args.self.now.underway) (c.args.number - c.own_count.result - c.send_count.result) none, c.delivery_count.ensures)

pub returns : goal.returns
returns g c =
    let w = c.args.self.now in
    let a = by_owner g.S.Spread.owner w Expand in
    let b = flat_map (sends_of g.S.Spread.owner w) (below (length w.owners)) in
    let d = deliveries 0 w.underway in
    let e = by_owner g.S.Spread.owner w Offer in
    let f = by_owner g.S.Spread.owner w Look in
    let h = by_owner g.S.Spread.owner w Rest in
    let none : slice_get d (c.args.number - c.own_count.result - c.send_count.result) ≡ None =
    rw (← c.self.view_is) (rw c.deref.ensures.value at (sym (c.nth_delivery.ensures (g.F.StateForm.values (ranges c.self.inside.space.now.task))) ∙ c.in_default-nth_delivery.is)) in
    c.nth_later.ensures
    ∙ sym (ap (λ xs. slice_get xs c.args.number) (six_parts a b d e f h)
    ∙ fourth_part a b d (e ++ f ++ h) (2 ^ 128 - 1) c.args.number c.own_count.result c.send_count.result c.delivery_count.result
    (omega (arith, c.ranges.number.fits)) (sym c.nth_own.ensures ∙ c.in_default.is) c.own_count.ensures
    (sym c.nth_send.ensures ∙ c.in_default-nth_send.is) c.send_count.ensures none c.delivery_count.ensures)
