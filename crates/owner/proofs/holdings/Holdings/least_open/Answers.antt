use Rattle.std.proofs.Common.{sym, ◌∙◌, subst}
use Rattle.owner_reached.specs.Queues.{IsLeast, HasNoneOpen, h_of}
use Rattle.owner.specs.Owned.{OwnerOf, space_of}
use Rattle.owner.proofs.Choosing.{least_open_none, least_open_first}
use Rattle.owner.proofs.holdings.Holdings.least_open.Goals as goal

pub returns-in-None : goal.returns-in-None
returns-in-None g c =
    c.inf.ensures
    ∙ sym (least_open_none (space_of g.S.Spread.owner c.args.self.now) c.args.self.now.nodes
    (subst (λ (o : OwnerOf g.row.S.Denot). HasNoneOpen (h_of o.space) o.nodes) c.self.view_is c.in-None.ensures.none))

pub returns-in-Some : goal.returns-in-Some
returns-in-Some g c =
    c.finite.ensures
    ∙ sym (least_open_first (space_of g.S.Spread.owner c.args.self.now) c.args.self.now.ever c.args.self.now.nodes c.in-Some.entry
    (subst (λ (o : OwnerOf g.row.S.Denot). IsLeast o.space.ties (h_of o.space) o.nodes o.ever c.in-Some.entry) c.self.view_is c.in-Some.ensures.some))
