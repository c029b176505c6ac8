use Rattle.std.proofs.Common.{◌≡◌, ◌∙◌}
use Rattle.std.specs.Prelude.{All}
use Rattle.fdr.specs.Tasks.{FiniteDomainTask}
use Rattle.pdb_patterns.specs.Choices.{IsMappingWithin}
use Rattle.scp.specs.Partitions.{mappings_of}
use Rattle.scp_orders.specs.Orders.{AreOrders}
use Rattle.scp_orders.proofs.ForColumns.{each_mapping_within, few_mappings, none_empty}
use Rattle.scp_stages.proofs.PoolMappings.{pool_within, orders_at}
use Rattle.scp_stages.proofs.columns.stage_columns.Goals as goal

pub choose_orders-requires-after_bounds : goal.choose_orders-requires-after_bounds
choose_orders-requires-after_bounds g c κs within =
    pool_within c.args.task.now c.in_ok-pooled.pooled.pool.task c.mappings-mappings.result.now c.in_ok-pooled.pooled.pool.mappings
    (c.in_ok-pooled.ensures.extended.task ∙ c.in_ok-pool_from.ensures) c.mappings-mappings.ensures.mappings c.mappings-mappings.ensures.distinct.each

pub make_columns-requires-clause-mappings : goal.make_columns-requires-clause-mappings
make_columns-requires-clause-mappings g c κs within =
    each_mapping_within c.args.task.now c.deref-2.result.now (orders_at c.args.task.now _ _ c.deref-2.ensures.value c.in_ok-orders.ensures.orders)

pub make_columns-requires-clause-few : goal.make_columns-requires-clause-few
make_columns-requires-clause-few g c κs within =
    few_mappings c.args.task.now c.deref-2.result.now (orders_at c.args.task.now _ _ c.deref-2.ensures.value c.in_ok-orders.ensures.orders)

pub make_columns-requires-clause-none_empty : goal.make_columns-requires-clause-none_empty
make_columns-requires-clause-none_empty g c κs within =
    none_empty c.args.task.now c.deref-2.result.now (orders_at c.args.task.now _ _ c.deref-2.ensures.value c.in_ok-orders.ensures.orders)
