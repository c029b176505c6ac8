use Rattle.std.proofs.Common.{◌≡◌, ℕ, length, ap, arith}
use Rattle.std.proofs.lemmas.List.{length-take}
use Rattle.pdb_refinement.proofs.Chosen.{order_length, order_below, one_set}
use Rattle.pdb_refinement.proofs.choice.considered_goals.Goals as goal

pub slice_bounds-flags_at-end : goal.slice_bounds-flags_at-end
slice_bounds-flags_at-end c =
    let long = order_length (length c.goal-count.result.now) c.in_ok-order.order.items c.in_ok-order.ensures in
    omega (arith, length-take c.min-chosen.result c.deref.result.now, c.min-chosen.ensures, long, c.deref.ensures.len)

pub flags_at-requires : goal.flags_at-requires
flags_at-requires c = rw c.deref.ensures.value (order_below (length c.goal-count.result.now) c.in_ok-order.order.items c.in_ok-order.ensures c.min-chosen.result)

pub returns-clause-some : goal.returns-clause-some
returns-clause-some c = λ some.
    (let n : ℕ = length c.goal-count.result.now in
    let long : n ≡ length c.args.task.now.goal = ap length c.goal-count.ensures.value in
    one_set n c.in_ok-order.order.items c.in_ok-order.ensures c.min-chosen.result c.in_ok-considered.considered.items (omega (arith, some, long, c.min-chosen.ensures, c.saturating_add.ensures)) (omega (arith, c.min-chosen.ensures)) c.in_ok-considered.ensures.len
    (rw c.deref.ensures.value at c.in_ok-considered.ensures.set))
