use Rattle.std.proofs.Common.{◌≡◌, ◌*◌, ◌^◌, ◌≤◌, take}
use Rattle.worker.specs.Workers.{known_in}
use Rattle.worker.proofs.worker.Worker.known_messages.Given as goal

abbrev pub invariant-loop-link : goal.invariant-loop-link
invariant-loop-link g l = record { counted : l.messages ≡ known_in (take l.link-index l.link-items); small : l.messages ≤ l.link-index * 2 ^ 64 }
