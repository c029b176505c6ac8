use Rattle.std.proofs.Common.{◌≡◌, map}
use Rattle.abstraction_mapping.specs.Views.{mapping_of}
use Rattle.scp.specs.Partitions.{mappings_of}
use Rattle.scp.specs.Orders.{orders_from}
use Rattle.scp.proofs.choice.orders_of.Given as goal

abbrev pub invariant-loop-first : goal.invariant-loop-first
invariant-loop-first l = map mappings_of l.orders.items ≡ orders_from l.first (map mapping_of l.mappings)
