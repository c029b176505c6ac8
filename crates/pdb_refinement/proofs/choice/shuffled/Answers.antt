use Rattle.std.proofs.Common.{◌-◌, ◌<◌, length, arith}
use Rattle.std.specs.List.{range_with_len}
use Rattle.std.proofs.lemmas.List.Sorted.{IsPermutation-refl, IsPermutation-swap, IsPermutation-trans}
use Rattle.pdb_refinement.proofs.Chosen.{order_length}
use Rattle.pdb_refinement.proofs.choice.shuffled.Goals as goal

pub loop-done-init : goal.loop-done-init
loop-done-init c = rw c.in_ok-order.ensures (IsPermutation-refl (range_with_len 0 c.args.count))

pub swap-requires-clause-i_in_bounds : goal.swap-requires-clause-i_in_bounds
swap-requires-clause-i_in_bounds c = omega (arith, order_length c.args.count c.loop-done.order.items c.loop-done.invariant)

pub swap-requires-clause-j_in_bounds : goal.swap-requires-clause-j_in_bounds
swap-requires-clause-j_in_bounds c = omega (arith, order_length c.args.count c.loop-done.order.items c.loop-done.invariant, c.number_below-other.ensures)

pub loop-done-preserved : goal.loop-done-preserved
loop-done-preserved c =
    let long = order_length c.args.count c.loop-done.order.items c.loop-done.invariant in
    let position : c.args.count - c.loop-done.done < length c.loop-done.order.items = omega (arith, long) in
    let other : c.number_below-other.result < length c.loop-done.order.items = omega (arith, long, c.number_below-other.ensures) in
    IsPermutation-trans _ _ _ c.loop-done.invariant (IsPermutation-swap _ _ _ _ position other c.swap.ensures.items)
