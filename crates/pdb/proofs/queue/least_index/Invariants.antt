use Rattle.std.proofs.Common.{◌<◌, length}
use Rattle.pdb.proofs.queue.least_index.Given as goal

abbrev pub invariant-loop-index : goal.invariant-loop-index
invariant-loop-index l = l.least < length l.entries
