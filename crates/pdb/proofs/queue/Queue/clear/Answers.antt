use Rattle.std.proofs.Common.{arith}
use Rattle.pdb.proofs.Buckets.{entries_of-empty}
use Rattle.pdb.proofs.queue.Queue.clear.Goals as goal

pub returns : goal.returns
returns c = entries_of-empty c.loop-bucket.self-inside.buckets.items (λ k d l. c.loop-bucket.invariant.empty k (omega arith) d)
