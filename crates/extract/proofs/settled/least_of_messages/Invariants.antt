use Rattle.std.proofs.Common.{◌≡◌, map, take}
use Rattle.cost.specs.Distances.{least}
use Rattle.fdr.specs.Tasks.{ranges}
use Rattle.closed.specs.Tables.{message_of}
use Rattle.extract.specs.Pending.{f_at}
use Rattle.extract.proofs.settled.least_of_messages.Given as goal

abbrev pub invariant-loop-i : goal.invariant-loop-i
invariant-loop-i g l = l.least ≡ least (map (λ m. f_at l.space (message_of (g.F.StateForm.values (ranges l.space.task)) m)) (take l.i l.messages.items))
