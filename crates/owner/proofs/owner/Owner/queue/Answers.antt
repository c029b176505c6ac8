use Rattle.std.proofs.Common.{ap, ◌∙◌, subst}
use Rattle.openlist.specs.BucketLists.{all_entries}
use Rattle.owner_reached.specs.Queues.{IsQueue, h_of}
use Rattle.owner.specs.declared.owner.Owner.TheInside.{Inside}
use Rattle.owner.specs.Owned.{OwnerOf}
use Rattle.owner.proofs.owner.Owner.queue.Goals as goal

pub returns : goal.returns
returns g c =
    subst (λ (o : OwnerOf g.row.S.Denot). IsQueue o.space.ties (h_of o.space) o.nodes o.ever (all_entries c.queue.result.now))
    (ap (λ (i : Inside g.row.S.Denot g.row.F.Denot). i.holdings) c.self-inside.view_is ∙ c.self.view_is) c.queue.ensures
