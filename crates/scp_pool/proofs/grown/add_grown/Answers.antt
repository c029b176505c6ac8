use Rattle.std.proofs.Common.{arith}
use Rattle.scp_pool.proofs.Extensions.{extended_twice}
use Rattle.scp_pool.proofs.grown.add_grown.Goals as goal

pub loop-position-preserved : goal.loop-position-preserved
loop-position-preserved c = record {
  extended = extended_twice c.args.grower.now.states c.args.pool.now c.loop-position.pool c.add_one.new.pool c.loop-position.invariant.extended c.in_ok-add_one.ensures.extended;
  few = omega (arith, c.in_ok-add_one.ensures.few);
}
