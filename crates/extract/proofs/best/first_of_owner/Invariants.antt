use Rattle.std.proofs.Common.{◌≡◌, drop}
use Rattle.extract.specs.Goals.{is_goal_at, first_from}
use Rattle.extract.proofs.best.first_of_owner.Given as goal

abbrev pub invariant-loop-index : goal.invariant-loop-index
invariant-loop-index g l =
    first_from (is_goal_at l.owner.space.task l.cost) l.index (drop l.index l.owner.nodes)
    ≡ first_from (is_goal_at l.owner.space.task l.cost) 0 l.owner.nodes
