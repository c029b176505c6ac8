use Rattle.std.proofs.Common.{◌≡◌, ◌++◌, map, take}
use Rattle.abstraction_mapping.specs.Views.{mapping_of}
use Rattle.scp.proofs.choice.append_copies.Given as goal

abbrev pub invariant-loop-mapping : goal.invariant-loop-mapping
invariant-loop-mapping l = map mapping_of l.order.items ≡ map mapping_of l.fn.order.items ++ map mapping_of (take l.mapping-index l.mappings)
