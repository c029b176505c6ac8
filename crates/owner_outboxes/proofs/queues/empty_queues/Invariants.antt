use Rattle.std.proofs.Common.{◌≡◌, [], replicate}
use Rattle.owner_outboxes.specs.Outboxes.{boxes_of}
use Rattle.owner_outboxes.proofs.queues.empty_queues.Given as goal

abbrev pub invariant-loop : goal.invariant-loop
invariant-loop g l = boxes_of l.queues.items ≡ replicate l.counter []
