use Rattle.std.proofs.Common.{◌≡◌, subst}
use Rattle.fdr.specs.Tasks.{ranges}
use Rattle.owner_theory.specs.Owners.{took}
use Rattle.closed.specs.Tables.{message_of}
use Rattle.owner.specs.Owned.{OwnerOf, space_of, under}
use Rattle.owner.proofs.Owning.{kept_takes}
use Rattle.owner.proofs.owner.Owner.knows.Goals as goal

pub returns-clause-nothing : goal.returns-clause-nothing
returns-clause-nothing g c known bound =
    let h = c.self.inside.holdings in
    let m = message_of (g.F.StateForm.values (ranges h.space.task)) c.args.message.now in
    let nothing = c.knows.ensures.known known in
    subst (λ (o : OwnerOf g.row.S.Denot). under o bound ≡ took (space_of g.S.Spread.owner o) (under o bound) (message_of (g.F.StateForm.values (ranges o.space.task)) c.args.message.now))
    c.self.view_is
    (kept_takes (space_of g.S.Spread.owner h) (under h bound) m nothing.kept nothing.no_goal)
