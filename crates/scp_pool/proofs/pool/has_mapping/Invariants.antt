use Rattle.std.proofs.Common.{◌≢◌, take}
use Rattle.std.specs.Prelude.{All}
use Rattle.abstraction_mapping.specs.Views.{mapping_of}
use Rattle.scp_pool.proofs.pool.has_mapping.Given as goal

abbrev pub invariant-loop-other : goal.invariant-loop-other
invariant-loop-other l = All (λ m. mapping_of m ≢ mapping_of l.mapping) (take l.other-index l.mappings)
