use Rattle.std.proofs.Common.{arith}
use Rattle.pdb.proofs.Buckets.{entries_of-put}
use Rattle.pdb.proofs.queue.put.Goals as goal

pub returns : goal.returns
returns c =
    entries_of-put c.args.buckets.now c.bucket_of-bucket.result c.index-buckets-bucket.result c.push.new.self
    (omega (arith, c.bucket_of-bucket.ensures, c.requires)) c.args.entry c.in_ok-push.ensures.items
