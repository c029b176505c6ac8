use Rattle.std.proofs.Common.{◌∙◌, [], ◌∷◌, arith}
use Rattle.std.proofs.lemmas.List.{length-append}
use Rattle.pdb.proofs.Buckets.{entries_of-more}
use Rattle.pdb.proofs.queue.Queue.new.Goals as goal

pub loop-preserved : goal.loop-preserved
loop-preserved c =
    rw c.in_ok-push.ensures.items
    (record {
      len = omega (arith, length-append c.loop.buckets.items (c.new.result ∷ []), c.loop.invariant.len);
      empty = entries_of-more c.loop.buckets.items c.new.result c.new.ensures.items ∙ c.loop.invariant.empty;
    })
