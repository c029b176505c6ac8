use Rattle.std.proofs.Common.{◌≡◌, ℕ, true, take}
use Rattle.index_rows.specs.Numbers.{has}
use Rattle.translate_choice.specs.Greedy.{IsQueuedIfFit, Keeps}
use Rattle.translate_choice.proofs.offers.Offers.queue_each.Given as goal

abbrev pub invariant-loop-group : goal.invariant-loop-group
invariant-loop-group l =
    record {
      keeps : Keeps l.fn.queue l.queue;
      queued : (g : ℕ) → has (take l.group-index l.groups) g ≡ true → IsQueuedIfFit l.self.index.now l.self.groups.now l.taken l.queue g;
    }
