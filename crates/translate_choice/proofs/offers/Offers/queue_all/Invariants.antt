use Rattle.std.proofs.Common.{ℕ, ◌<◌}
use Rattle.translate_choice.specs.Greedy.{IsQueuedIfFit}
use Rattle.translate_choice.proofs.offers.Offers.queue_all.Given as goal

abbrev pub invariant-loop-group : goal.invariant-loop-group
invariant-loop-group l = (g : ℕ) → g < l.group → IsQueuedIfFit l.self.index.now l.self.groups.now l.taken l.queue g
