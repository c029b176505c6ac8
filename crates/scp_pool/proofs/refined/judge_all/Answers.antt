use Rattle.std.proofs.Common.{arith}
use Rattle.scp_pool.proofs.Extensions.{extended_twice}
use Rattle.scp_pool.proofs.refined.judge_all.Goals as goal

pub loop-refined-preserved : goal.loop-refined-preserved
loop-refined-preserved c = record {
  extended = extended_twice c.args.share.now.states c.args.pool.now c.loop-refined.pool c.judge.new.pool c.loop-refined.invariant.extended c.in_ok-judge.ensures.extended;
  few = omega (arith, c.in_ok-judge.ensures.few);
}
