use Rattle.std.proofs.Common.{sym, ap, ◌∙◌, subst}
use Rattle.cost.specs.Distances.{is_at_most}
use Rattle.owner_reached.specs.Queues.{IsLeast, HasNoneOpen, h_of}
use Rattle.owner.specs.Owned.{OwnerOf, space_of, under}
use Rattle.owner.proofs.Choosing.{no_open_none, no_open_past}
use Rattle.owner.proofs.holdings.Holdings.next.Goals as goal

pub returns-in_err-entry-clause-none : goal.returns-in_err-entry-clause-none
returns-in_err-entry-clause-none g c = λ _.
    no_open_none (space_of g.S.Spread.owner c.args.self.now) (under c.args.self.now c.args.bound)
    (subst (λ (o : OwnerOf g.row.S.Denot). HasNoneOpen (h_of o.space) o.nodes) c.self.view_is c.in_err-entry.ensures.none)

pub returns-then-is_within-clause-none : goal.returns-then-is_within-clause-none
returns-then-is_within-clause-none g c = λ _.
    no_open_past (space_of g.S.Spread.owner c.args.self.now) c.args.self.now.ever (under c.args.self.now c.args.bound) c.in_ok-entry.entry
    (subst (λ (o : OwnerOf g.row.S.Denot). IsLeast o.space.ties (h_of o.space) o.nodes o.ever c.in_ok-entry.entry) c.self.view_is c.in_ok-entry.ensures.some)
    (sym (ap (is_at_most c.args.bound) c.finite.ensures) ∙ sym c.if-is_within.ensures)
