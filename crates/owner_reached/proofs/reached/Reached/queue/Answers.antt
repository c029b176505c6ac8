use Rattle.std.proofs.Common.{subst}
use Rattle.openlist.specs.BucketLists.{all_entries}
use Rattle.owner_reached.specs.Queues.{ReachedOf, IsQueue, h_of}
use Rattle.owner_reached.proofs.reached.Reached.queue.Goals as goal

pub returns : goal.returns
returns g c =
    subst (λ (r : ReachedOf g.row.S.Denot). IsQueue r.space.ties (h_of r.space) r.nodes r.ever (all_entries c.self.inside.queue)) c.self.view_is
    c.self.invariant.1
