use Rattle.pdb.proofs.Buckets.{taken_from}
use Rattle.pdb.specs.Queues.{entries_of}
use Rattle.pdb.proofs.queue.take_from.Goals as goal

pub returns : goal.returns
returns c =
    let put = rw c.deref-2.ensures.value at c.in_ok-put_all.ensures in
    let below = rw c.deref.ensures.value at c.least_index-least.ensures in
    taken_from c.args.buckets.now c.args.bucket c.index-buckets-bucket.result c.swap.new.x c.clear.new.self c.swap.new.y c.swap_remove-entry.new.self.items (entries_of c.put_all.new.buckets)
    c.least_index-least.result c.swap_remove-entry.result
    c.requires.filled.0 c.swap.ensures.y_after c.clear.ensures.items c.swap.ensures.x_after below c.swap_remove-entry.ensures.value c.swap_remove-entry.ensures.items put
