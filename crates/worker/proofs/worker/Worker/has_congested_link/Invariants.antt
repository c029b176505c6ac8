use Rattle.std.proofs.Common.{◌≡◌, false, take}
use Rattle.worker.specs.Turns.{has_congested_link}
use Rattle.worker.proofs.worker.Worker.has_congested_link.Given as goal

abbrev pub invariant-loop-to : goal.invariant-loop-to
invariant-loop-to g l = has_congested_link (take l.to l.self.owner.outboxes) ≡ false
