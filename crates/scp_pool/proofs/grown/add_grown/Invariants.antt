use Rattle.std.proofs.Common.{◌+◌, ◌≤◌, length}
use Rattle.scp_pool.specs.Pools.{IsExtension}
use Rattle.scp_pool.proofs.grown.add_grown.Given as goal

abbrev pub invariant-loop-position : goal.invariant-loop-position
invariant-loop-position l = record {
  extended : IsExtension l.grower.states l.initial.pool l.pool;
  few : length l.pool.mappings ≤ length l.initial.pool.mappings + l.position;
}
