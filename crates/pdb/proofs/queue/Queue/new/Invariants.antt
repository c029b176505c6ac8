use Rattle.std.proofs.Common.{◌≡◌, [], length}
use Rattle.pdb.specs.Queues.{entries_of}
use Rattle.pdb.proofs.queue.Queue.new.Given as goal

abbrev pub invariant-loop : goal.invariant-loop
invariant-loop l = record {
  len : length l.buckets.items ≡ l.counter;
  empty : entries_of l.buckets.items ≡ [];
}
