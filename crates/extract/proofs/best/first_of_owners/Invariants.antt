use Rattle.std.proofs.Common.{◌≡◌, drop}
use Rattle.owner.specs.Owned.{OwnerOf}
use Rattle.extract.specs.Goals.{is_goal_at, first_in_rows}
use Rattle.extract.proofs.best.first_of_owners.Given as goal

abbrev pub invariant-loop-worker : goal.invariant-loop-worker
invariant-loop-worker g l =
    first_in_rows (λ (o : OwnerOf _). o.nodes) (is_goal_at l.space.task l.cost) l.worker (drop l.worker l.owners)
    ≡ first_in_rows (λ (o : OwnerOf _). o.nodes) (is_goal_at l.space.task l.cost) 0 l.owners
