use Rattle.std.proofs.Common.{ap, ◌∙◌}
use Rattle.fdr.specs.Tasks.{ranges}
use Rattle.owner_theory.specs.Worlds.{waiting}
use Rattle.owner.specs.Owned.{OwnerOf}
use Rattle.owner_outboxes.proofs.Showing.{shown_count}
use Rattle.owner.proofs.holdings.Holdings.messages.Goals as goal

pub returns : goal.returns
returns g c =
    c.messages.ensures
    ∙ (shown_count (g.F.StateForm.values (ranges c.self.inside.reached.space.task)) c.self.inside.outboxes
    ∙ ap (λ (o : OwnerOf g.row.S.Denot). waiting o.outboxes) c.self.view_is)
