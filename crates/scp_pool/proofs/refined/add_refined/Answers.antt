use Rattle.std.proofs.Common.{arith}
use Rattle.scp_pool.proofs.Extensions.{extended_twice}
use Rattle.scp_pool.proofs.refined.add_refined.Goals as goal

pub loop-preserved : goal.loop-preserved
loop-preserved g c = record {
  extended = extended_twice c.args.share.now.states c.args.pool.now c.loop.pool c.judge_all.new.pool c.loop.invariant.extended c.in_ok-judge_all.ensures.extended;
  few = omega (arith, c.in_ok-judge_all.ensures.few, c.deref.ensures.len, c.in_ok-batch.ensures.few);
  made = omega (arith, c.batch_after-count.ensures);
}
