use Rattle.std.proofs.lemmas.Result.{IfOk-weaker}
use Rattle.scp_orders.proofs.choice.choose_orders.Goals as goal

pub returns-clause-orders : goal.returns-clause-orders
returns-clause-orders g c = IfOk-weaker c.orders_or_first.result _ _ (λ orders made. made c.args.task.now c.requires) c.orders_or_first.ensures.orders
