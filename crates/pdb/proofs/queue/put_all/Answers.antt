use Rattle.std.proofs.lemmas.List.Sorted.{IsPermutation-refl}
use Rattle.pdb.specs.Queues.{entries_of}
use Rattle.pdb.proofs.Buckets.{put_next}
use Rattle.pdb.proofs.queue.put_all.Goals as goal

pub loop-entry-init : goal.loop-entry-init
loop-entry-init c = IsPermutation-refl (entries_of c.args.buckets.now)

pub loop-entry-preserved : goal.loop-entry-preserved
loop-entry-preserved c =
    put_next c.args.entries.now (entries_of c.args.buckets.now) (entries_of c.loop-entry.buckets) (entries_of c.put.new.buckets) c.loop-entry.entry-index _
    c.loop-entry-test.true c.loop-entry.invariant c.in_ok-put.ensures
