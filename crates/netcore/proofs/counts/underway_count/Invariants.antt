use Rattle.std.proofs.Common.{◌≡◌, ℕ, List, ◌-◌, ◌^◌, min, take, length}
use Rattle.extract.specs.Views.{all_packets}
use Rattle.netcore.proofs.counts.underway_count.Given as goal

abbrev pub invariant-loop-queue : goal.invariant-loop-queue
invariant-loop-queue g l = (values : g.row.F.Denot → List ℕ) → l.count ≡ min (length (all_packets values (take l.queue-index l.queues))) (2 ^ 128 - 1)
