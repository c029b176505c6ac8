use Rattle.scp_orders.proofs.ForColumns.{each_mapping_within, few_mappings, few_orders, none_empty}
use Rattle.test_orders.proofs.orders.columns_of.Goals as goal

pub make_columns-requires-clause-mappings : goal.make_columns-requires-clause-mappings
make_columns-requires-clause-mappings g c = λ _ _. each_mapping_within c.args.task.now c.args.orders.now c.requires

pub make_columns-requires-clause-few : goal.make_columns-requires-clause-few
make_columns-requires-clause-few g c = λ _ _. few_mappings c.args.task.now c.args.orders.now c.requires

pub make_columns-requires-clause-few_columns : goal.make_columns-requires-clause-few_columns
make_columns-requires-clause-few_columns g c = λ _ _. few_orders c.args.task.now c.args.orders.now c.requires

pub make_columns-requires-clause-none_empty : goal.make_columns-requires-clause-none_empty
make_columns-requires-clause-none_empty g c = λ _ _. none_empty c.args.task.now c.args.orders.now c.requires
