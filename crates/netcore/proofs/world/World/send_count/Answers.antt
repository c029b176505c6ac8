use Rattle.std.proofs.Common.{arith}
use Rattle.netcore.specs.Possible.{sends_of}
use Rattle.netcore.proofs.Choosing.{joined_more}
use Rattle.netcore.proofs.world.World.send_count.Goals as goal

pub loop-worker-preserved : goal.loop-worker-preserved
loop-worker-preserved g c =
    let more = joined_more (sends_of g.S.Spread.owner c.args.self.now) c.loop-worker.worker in
    omega (arith, more, c.saturating_add-count.ensures, c.loop-worker.invariant, c.send_count_of.ensures)
