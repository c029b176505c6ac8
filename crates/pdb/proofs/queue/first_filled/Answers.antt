use Rattle.std.proofs.Common.{arith}
use Rattle.pdb.proofs.Buckets.{entries_of-empty}
use Rattle.pdb.proofs.queue.first_filled.Goals as goal

pub returns-clause-none : goal.returns-clause-none
returns-clause-none c = entries_of-empty c.args.buckets.now (λ k d l. c.loop-bucket.invariant k (omega arith) d)
