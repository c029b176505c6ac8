use Rattle.std.proofs.Common.{max}
use Rattle.engine.proofs.Endings.{first_ready}
use Rattle.engine.proofs.searches.search.Goals as goal

pub loop-init : goal.loop-init
loop-init g c = first_ready g.S.Spread.owner c.args.space.now c.args.workers (max c.args.capacity 1) c.in_ok-team.team c.in_ok-team.ensures

pub step-requires-after_bounds : goal.step-requires-after_bounds
step-requires-after_bounds g c κs within = c.loop.invariant.none_aside
