use Rattle.std.proofs.Common.{◌≡◌, ◌++◌, map}
use Rattle.engine.proofs.join.owners_of.Given as goal

abbrev pub invariant-loop-worker : goal.invariant-loop-worker
invariant-loop-worker g l = l.owners.items ++ map (λ w. w.owner) l.worker-iterator.rest.items ≡ map (λ w. w.owner) l.fn.workers.items
