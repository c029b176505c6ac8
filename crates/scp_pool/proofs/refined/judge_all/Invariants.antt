use Rattle.std.proofs.Common.{◌+◌, ◌≤◌, length}
use Rattle.scp_pool.specs.Pools.{IsExtension}
use Rattle.scp_pool.proofs.refined.judge_all.Given as goal

abbrev pub invariant-loop-refined : goal.invariant-loop-refined
invariant-loop-refined l = record {
  extended : IsExtension l.share.states l.initial.pool l.pool;
  few : length l.pool.mappings ≤ length l.initial.pool.mappings + l.refined-index;
}
