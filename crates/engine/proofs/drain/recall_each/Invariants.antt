use Rattle.std.proofs.Common.{ℕ, ◌<◌}
use Rattle.owner_theory.specs.Owners.{At}
use Rattle.worker.specs.Workers.{WorkerOf, IsKept}
use Rattle.engine.proofs.drain.recall_each.Given as goal

abbrev pub invariant-loop-worker : goal.invariant-loop-worker
invariant-loop-worker g l = (v : ℕ) (w : WorkerOf g.row.S.Denot g.row.F.Denot) → v < l.worker-index → At l.workers.items v w → IsKept g.S.Spread.owner g.F.StateForm.values w
