use Rattle.std.proofs.Common.{◌∙◌, ◌<◌, length, arith}
use Rattle.extract.specs.Goals.{is_goal_at}
use Rattle.extract.proofs.FirstPlaces.{found_here, not_here}
use Rattle.extract.proofs.best.first_of_owner.Goals as goal

pub returns-then-is_goal_at : goal.returns-then-is_goal_at
returns-then-is_goal_at g c =
    let below : c.loop-index.index < length c.args.owner.now.nodes = omega (arith, c.loop-index-test.true, c.len-index-end.ensures) in
    found_here (is_goal_at c.args.owner.now.space.task c.args.cost) c.args.owner.now.nodes c.loop-index.index c.is_goal_at.result below
    c.is_goal_at.ensures c.if-is_goal_at.true
    ∙ c.loop-index.invariant

pub loop-index-preserved : goal.loop-index-preserved
loop-index-preserved g c =
    let below : c.loop-index.index < length c.args.owner.now.nodes = omega (arith, c.loop-index-test.true, c.len-index-end.ensures) in
    not_here (is_goal_at c.args.owner.now.space.task c.args.cost) c.args.owner.now.nodes c.loop-index.index c.is_goal_at.result below
    c.is_goal_at.ensures c.if-is_goal_at.false
    ∙ c.loop-index.invariant
