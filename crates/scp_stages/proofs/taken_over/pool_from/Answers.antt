use Rattle.std.proofs.Common.{◌≡◌}
use Rattle.scp_stages.proofs.PoolMappings.{order_within}
use Rattle.scp_stages.proofs.taken_over.pool_from.Goals as goal

pub add_order-requires : goal.add_order-requires
add_order-requires c =
    order_within c.args.task.now c.loop-order.pool.task c.args.orders.now c.loop-order.order-index c.order-item.result c.deref.result.now
    c.loop-order.invariant c.loop-order-test.true c.order-item.is c.deref.ensures.value c.requires
