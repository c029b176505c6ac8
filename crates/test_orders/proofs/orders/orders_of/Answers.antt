use Rattle.std.proofs.Common.{◌≤◌, ◌^◌, arith}
use Rattle.scp.proofs.ChosenMappings.{each_mapping}
use Rattle.test_orders.proofs.orders.orders_of.Goals as goal

pub choose_orders-requires-after_bounds : goal.choose_orders-requires-after_bounds
choose_orders-requires-after_bounds g c κs within =
    let small : c.clamp-limit.result ≤ 2 ^ 24 = omega arith in
    rw c.deref.ensures.value (each_mapping c.args.task.now c.clamp-limit.result small c.in_ok-pool.pool.items c.in_ok-pool.ensures.mappings)
