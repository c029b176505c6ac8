use Rattle.std.proofs.Common.{map, take}
use Rattle.abstraction_mapping.specs.Views.{mapping_of}
use Rattle.scp_columns.proofs.ColumnsSoFar.{IsColumnSoFar}
use Rattle.scp_columns.proofs.column.make_column.Given as goal

abbrev pub invariant-loop-mapping : goal.invariant-loop-mapping
invariant-loop-mapping l = IsColumnSoFar l.task (take l.mapping-index (map mapping_of l.mappings)) l.left.items l.column.items
