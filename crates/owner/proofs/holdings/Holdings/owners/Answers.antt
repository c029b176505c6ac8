use Rattle.std.proofs.Common.{length, sym, ap, ◌∙◌}
use Rattle.fdr.specs.Tasks.{ranges}
use Rattle.owner.specs.Owned.{OwnerOf}
use Rattle.owner_outboxes.proofs.Showing.{shown_length}
use Rattle.owner.proofs.holdings.Holdings.owners.Goals as goal

pub returns : goal.returns
returns g c =
    c.len.ensures
    ∙ (sym (shown_length (g.F.StateForm.values (ranges c.self.inside.reached.space.task)) c.self.inside.outboxes)
    ∙ ap (λ (o : OwnerOf g.row.S.Denot). length o.outboxes) c.self.view_is)
