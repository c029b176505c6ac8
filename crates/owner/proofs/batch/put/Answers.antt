use Rattle.fdr.specs.Tasks.{ranges}
use Rattle.closed.specs.Tables.{message_of}
use Rattle.owner.proofs.Batching.{posted_one, moved_batch}
use Rattle.owner.proofs.batch.put.Goals as goal
use Rattle.owner.proofs.batch.put.Goals.{In_ok-post}
use Rattle.std.proofs.Common.{refl}
use Rattle.owner.specs.Batches.{ArePosted}

put_out : (g : _) (c : In_ok-post g)
    → ArePosted c.args.holdings.now c.post.new.self c.args.batch.now.receivers.items c.post.new.receivers.items
put_out g c =
    posted_one c.args.holdings.now c.post.new.self c.args.to
    (message_of (g.F.StateForm.values (ranges c.args.holdings.now.space.task)) c.args.message) c.args.batch.now.receivers.items
    c.post.new.receivers.items c.requires.to c.in_ok-post.ensures.posted c.in_ok-post.ensures.receivers

pub returns-clause-posted : goal.returns-clause-posted
returns-clause-posted g c = put_out g c

pub returns-clause-batch : goal.returns-clause-batch
returns-clause-batch g c =
    moved_batch g.F.StateForm.IsForm g.F.StateForm.values g.S.Spread.owner c.args.holdings.now c.post.new.self
    c.args.batch.now.receivers.items c.post.new.receivers.items c.args.batch.now _ (put_out g c) refl refl c.requires.batch
