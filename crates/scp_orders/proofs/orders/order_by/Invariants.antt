use Rattle.std.proofs.Common.{◌≤◌, length, map}
use Rattle.abstraction_mapping.specs.Views.{mapping_of}
use Rattle.scp_orders.specs.Orders.{IsChoice}
use Rattle.scp_orders.proofs.orders.order_by.Given as goal

abbrev pub invariant-loop-index : goal.invariant-loop-index
invariant-loop-index l =
    record {
      few : length l.order.items ≤ 64;
      choice : IsChoice (map mapping_of l.mappings) (map mapping_of l.order.items);
    }
