use Rattle.std.proofs.Common.{◌≡◌, ◌<◌, ◌++◌, [], map, length, sym, subst}
use Rattle.std.specs.Prelude.{IfSome, IfNone, slice_set}
use Rattle.std.specs.Option.{option_to_list}
use Rattle.fdr.specs.Tasks.{ranges}
use Rattle.owner_theory.specs.Owners.{list_at}
use Rattle.closed.specs.Tables.{message_of}
use Rattle.owner.specs.Owned.{OwnerOf, space_of, IsMessageTo}
use Rattle.owner.proofs.Owning.{boxes_in, popped_kept, popped_fits}
use Rattle.owner_outboxes.proofs.Showing.{shown_first, shown_others, shown_emptied}
use Rattle.owner.proofs.holdings.Holdings.next_out.Goals as goal

pub invariant_of-self : goal.invariant_of-self
invariant_of-self g c =
    let values = g.F.StateForm.values (ranges c.self.inside.reached.space.task) in
    popped_kept g.S.Spread.owner _ (message_of values) (boxes_in g.F.StateForm.values c.take_out.new.self c.self.inside.reached.space)
    c.args.to c.take_out.result c.self.invariant
    (subst (λ (o : OwnerOf g.row.S.Denot). c.args.to < length o.outboxes) (sym c.self.view_is) c.requires)
    (shown_first values c.self.inside.outboxes c.take_out.new.self c.args.to c.take_out.result c.take_out.ensures.first)
    (shown_others values c.self.inside.outboxes c.take_out.new.self c.args.to c.take_out.ensures.others)

pub returns-clause-fits : goal.returns-clause-fits
returns-clause-fits g c =
    let values = g.F.StateForm.values (ranges c.self.inside.reached.space.task) in
    subst (λ (o : OwnerOf g.row.S.Denot). IfSome c.take_out.result
    (λ m. IsMessageTo (space_of g.S.Spread.owner o) c.args.to (message_of (g.F.StateForm.values (ranges o.space.task)) m)))
    c.self.view_is
    (popped_fits g.S.Spread.owner _ (message_of values) (boxes_in g.F.StateForm.values c.take_out.new.self c.self.inside.reached.space)
    c.args.to c.take_out.result c.self.invariant
    (subst (λ (o : OwnerOf g.row.S.Denot). c.args.to < length o.outboxes) (sym c.self.view_is) c.requires)
    (shown_first values c.self.inside.outboxes c.take_out.new.self c.args.to c.take_out.result c.take_out.ensures.first))

pub returns-clause-none : goal.returns-clause-none
returns-clause-none g c =
    subst (λ (o : OwnerOf g.row.S.Denot). IfNone c.take_out.result (list_at o.outboxes c.args.to ≡ [])) c.self.view_is
    (shown_emptied (g.F.StateForm.values (ranges c.self.inside.reached.space.task)) c.take_out.result c.self.inside.outboxes c.args.to
    c.take_out.ensures.none)

pub returns-clause-first : goal.returns-clause-first
returns-clause-first g c =
    let values = g.F.StateForm.values (ranges c.self.inside.reached.space.task) in
    subst (λ (o : OwnerOf g.row.S.Denot). list_at o.outboxes c.args.to ≡
    map (message_of (g.F.StateForm.values (ranges o.space.task))) (option_to_list c.take_out.result)
    ++ list_at (boxes_in g.F.StateForm.values c.take_out.new.self c.self.inside.reached.space) c.args.to)
    c.self.view_is
    (shown_first values c.self.inside.outboxes c.take_out.new.self c.args.to c.take_out.result c.take_out.ensures.first)

pub returns-clause-others : goal.returns-clause-others
returns-clause-others g c =
    let values = g.F.StateForm.values (ranges c.self.inside.reached.space.task) in
    let boxes = boxes_in g.F.StateForm.values c.take_out.new.self c.self.inside.reached.space in
    let new : OwnerOf g.row.S.Denot = record {
      space = c.self.inside.reached.space;
      worker = c.self.inside.worker;
      nodes = c.self.inside.reached.nodes;
      ever = c.self.inside.reached.ever;
      outboxes = boxes;
      best = c.self.inside.best;
      expansions = c.self.inside.expansions;
    } in
    subst (λ (o : OwnerOf g.row.S.Denot). new ≡ record o { outboxes = slice_set o.outboxes c.args.to (list_at boxes c.args.to) })
    c.self.view_is
    (λ j. record new { outboxes = shown_others values c.self.inside.outboxes c.take_out.new.self c.args.to c.take_out.ensures.others j })
