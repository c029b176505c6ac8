use Rattle.std.proofs.Common.{arith}
use Rattle.pdb.proofs.Buckets.{entries_of-pop}
use Rattle.pdb.proofs.queue.Queue.take.Goals as goal

pub returns-in-Some-clause-some : goal.returns-in-Some-clause-some
returns-in-Some-clause-some c =
    rw (← c.self.view_is)
    (entries_of-pop c.self.inside.buckets.items 0 c.index_mut.result.now c.pop.new.self (omega (arith, c.self.invariant)) c.index_mut.ensures.value c.in-Some.entry c.in-Some.ensures.items)
