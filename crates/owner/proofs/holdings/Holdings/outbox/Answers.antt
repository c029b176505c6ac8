use Rattle.std.proofs.Common.{◌≡◌, map, sym, ap, ◌∙◌, subst}
use Rattle.fdr.specs.Tasks.{ranges}
use Rattle.owner_theory.specs.Owners.{list_at}
use Rattle.closed.specs.Tables.{message_of}
use Rattle.owner.specs.Owned.{OwnerOf}
use Rattle.owner_outboxes.proofs.Showing.{shown_at}
use Rattle.owner.proofs.holdings.Holdings.outbox.Goals as goal

pub returns : goal.returns
returns g c =
    let values = g.F.StateForm.values (ranges c.self.inside.reached.space.task) in
    subst (λ (o : OwnerOf g.row.S.Denot). map (message_of (g.F.StateForm.values (ranges o.space.task))) c.outbox.result.now.items ≡ list_at o.outboxes c.args.to)
    c.self.view_is
    (ap (map (message_of values)) c.outbox.ensures ∙ sym (shown_at values c.self.inside.outboxes c.args.to))
