use Rattle.std.proofs.Common.{length}
use Rattle.translate_choice.specs.Greedy.{AreQueued}
use Rattle.translate_choice.proofs.choice.next_variable.Given as goal

abbrev pub invariant-loop-candidate : goal.invariant-loop-candidate
invariant-loop-candidate l = AreQueued l.offers.index.now l.offers.groups.now l.taken l.queue

abbrev pub decreases-loop-candidate : goal.decreases-loop-candidate
decreases-loop-candidate l = length l.queue
