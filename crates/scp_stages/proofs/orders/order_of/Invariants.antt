use Rattle.std.proofs.Common.{◌≡◌, map, take}
use Rattle.scp.specs.Partitions.{mappings_of}
use Rattle.scp_stages.specs.StageOrders.{mappings_in}
use Rattle.scp_stages.proofs.orders.order_of.Given as goal

abbrev pub invariant-loop-table : goal.invariant-loop-table
invariant-loop-table l = mappings_of l.order ≡ mappings_in (map (λ t. t.table) (take l.table-index l.column))
