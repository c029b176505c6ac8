use Rattle.std.proofs.Common.{◌≡◌, ◌<◌, length, vec_len, All}
use Rattle.owner_outboxes.specs.Outboxes.{withdrawn}
use Rattle.owner_outboxes.proofs.queues.Outboxes.withdraw.Given as goal

abbrev pub invariant-loop-to : goal.invariant-loop-to
invariant-loop-to g l =
    record {
      left : withdrawn l.receivers.items l.self ≡ withdrawn l.fn.receivers.items l.fn.self;
      there : All (λ t. t < length l.self) l.receivers.items;
    }

abbrev pub decreases-loop-to : goal.decreases-loop-to
decreases-loop-to g l = vec_len l.receivers
