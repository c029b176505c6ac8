use Rattle.std.proofs.Common.{◌++◌, take}
use Rattle.std.specs.Prelude.{IsPermutation}
use Rattle.pdb.specs.Queues.{entries_of}
use Rattle.pdb.proofs.queue.put_all.Given as goal

abbrev pub invariant-loop-entry : goal.invariant-loop-entry
invariant-loop-entry l = IsPermutation (take l.entry-index l.entries ++ entries_of l.initial.buckets) (entries_of l.buckets)
