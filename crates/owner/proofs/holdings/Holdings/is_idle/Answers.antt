use Rattle.std.proofs.Common.{ap, ◌∙◌}
use Rattle.std.specs.List.{list_all}
use Rattle.fdr.specs.Tasks.{ranges}
use Rattle.owner_theory.specs.Worlds.{is_empty}
use Rattle.owner.specs.Owned.{OwnerOf, space_of, under}
use Rattle.owner.proofs.Owning.{idle_not, idle_from, none_from}
use Rattle.owner_outboxes.proofs.Showing.{shown_empty}
use Rattle.owner.proofs.holdings.Holdings.is_idle.Goals as goal

pub returns-then-is_none : goal.returns-then-is_none
returns-then-is_none g c =
    idle_from (space_of g.S.Spread.owner c.args.self.now) (under c.args.self.now c.args.bound) c.are_empty.result
    (c.next.ensures.none (none_from c.next.result c.if-is_none.ensures))
    (c.are_empty.ensures ∙ shown_empty (g.F.StateForm.values (ranges c.self.inside.reached.space.task)) c.self.inside.outboxes
    ∙ ap (λ (o : OwnerOf g.row.S.Denot). list_all is_empty o.outboxes) c.self.view_is)

pub returns-else-is_none : goal.returns-else-is_none
returns-else-is_none g c =
    c.if-is_none.false
    ∙ idle_not c.args.self.now.space.ties c.args.self.now.ever c.next.result (space_of g.S.Spread.owner c.args.self.now) (under c.args.self.now c.args.bound) c.if-is_none.ensures
    c.next.ensures.some
