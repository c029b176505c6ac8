use Rattle.std.proofs.Common.{map}
use Rattle.abstraction_mapping.specs.Views.{mapping_of}
use Rattle.scp.proofs.OrderLaws.{orders_are, each_mapping_within, few_mappings, few_orders, none_empty}
use Rattle.scp.proofs.choice.choose_columns.Goals as goal

pub make_columns-requires-clause-mappings : goal.make_columns-requires-clause-mappings
make_columns-requires-clause-mappings g c =
    let kept = c.in_ok-mappings.mappings.items in let orders = c.in_ok-orders.orders.items in
    rw c.deref-2.ensures.value (λ _ _. each_mapping_within c.args.task.now c.args.limit (map mapping_of kept) orders c.requires.small c.in_ok-mappings.ensures.mappings
    (orders_are kept c.deref.result.now orders c.deref.ensures.value c.in_ok-orders.ensures))

pub make_columns-requires-clause-few : goal.make_columns-requires-clause-few
make_columns-requires-clause-few g c =
    let kept = c.in_ok-mappings.mappings.items in let orders = c.in_ok-orders.orders.items in
    rw c.deref-2.ensures.value (λ _ _. few_mappings c.args.task.now c.args.limit (map mapping_of kept) orders c.in_ok-mappings.ensures.mappings
    (orders_are kept c.deref.result.now orders c.deref.ensures.value c.in_ok-orders.ensures))

pub make_columns-requires-clause-few_columns : goal.make_columns-requires-clause-few_columns
make_columns-requires-clause-few_columns g c =
    let kept = c.in_ok-mappings.mappings.items in let orders = c.in_ok-orders.orders.items in
    rw c.deref-2.ensures.value (λ _ _. few_orders (map mapping_of kept) orders (orders_are kept c.deref.result.now orders c.deref.ensures.value c.in_ok-orders.ensures))

pub make_columns-requires-clause-none_empty : goal.make_columns-requires-clause-none_empty
make_columns-requires-clause-none_empty g c =
    let kept = c.in_ok-mappings.mappings.items in let orders = c.in_ok-orders.orders.items in
    rw c.deref-2.ensures.value (λ _ _. none_empty (map mapping_of kept) orders (orders_are kept c.deref.result.now orders c.deref.ensures.value c.in_ok-orders.ensures))
