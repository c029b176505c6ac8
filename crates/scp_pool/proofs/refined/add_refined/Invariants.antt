use Rattle.std.proofs.Common.{◌+◌, ◌≤◌, length}
use Rattle.scp_pool.specs.Pools.{IsExtension}
use Rattle.scp_pool.proofs.refined.add_refined.Given as goal

abbrev pub invariant-loop : goal.invariant-loop
invariant-loop g l = record {
  extended : IsExtension l.share.states l.initial.pool l.pool;
  few : length l.pool.mappings ≤ length l.initial.pool.mappings + l.made;
  made : l.made ≤ l.share.runs;
}
