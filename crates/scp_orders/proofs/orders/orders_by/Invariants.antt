use Rattle.std.proofs.Common.{◌≤◌, length, map}
use Rattle.abstraction_mapping.specs.Views.{mapping_of}
use Rattle.scp_orders.proofs.OrderLists.{AreChoices}
use Rattle.scp_orders.proofs.orders.orders_by.Given as goal

abbrev pub invariant-loop-indices : goal.invariant-loop-indices
invariant-loop-indices l =
    record {
      few : length l.orders.items ≤ 8;
      are : AreChoices (map mapping_of l.mappings) l.orders.items;
    }
