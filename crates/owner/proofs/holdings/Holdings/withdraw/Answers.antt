use Rattle.std.proofs.Common.{◌≡◌, ◌<◌, length, All, sym, ap, ◌∙◌, subst}
use Rattle.fdr.specs.Tasks.{ranges}
use Rattle.owner.specs.Owned.{OwnerOf}
use Rattle.owner.specs.Outboxes.{shown, withdrawn}
use Rattle.owner.proofs.Owning.{boxes_in, withdrawn_kept}
use Rattle.owner_outboxes.proofs.Showing.{shown_length}
use Rattle.owner_outboxes.proofs.Withdrawing.{shown_withdrawn}
use Rattle.owner.proofs.holdings.Holdings.withdraw.Goals as goal

pub withdraw-requires : goal.withdraw-requires
withdraw-requires g c =
    let values = g.F.StateForm.values (ranges c.self.inside.reached.space.task) in
    subst (λ n. All (λ t. t < n) c.args.receivers.now.items) (shown_length values c.self.inside.outboxes)
    (subst (λ (o : OwnerOf g.row.S.Denot). All (λ t. t < length o.outboxes) c.args.receivers.now.items) (sym c.self.view_is) c.requires)

pub invariant_of-self : goal.invariant_of-self
invariant_of-self g c =
    let values = g.F.StateForm.values (ranges c.self.inside.reached.space.task) in
    withdrawn_kept g.S.Spread.owner _ c.args.receivers.now.items (boxes_in g.F.StateForm.values c.withdraw.new.self c.self.inside.reached.space)
    c.self.invariant
    (ap (shown values) c.withdraw.ensures ∙ shown_withdrawn values c.args.receivers.now.items c.self.inside.outboxes)

pub returns : goal.returns
returns g c =
    let values = g.F.StateForm.values (ranges c.self.inside.reached.space.task) in
    let new : OwnerOf g.row.S.Denot = record {
      space = c.self.inside.reached.space;
      worker = c.self.inside.worker;
      nodes = c.self.inside.reached.nodes;
      ever = c.self.inside.reached.ever;
      outboxes = boxes_in g.F.StateForm.values c.withdraw.new.self c.self.inside.reached.space;
      best = c.self.inside.best;
      expansions = c.self.inside.expansions;
    } in
    subst (λ (o : OwnerOf g.row.S.Denot). new ≡ record o { outboxes = withdrawn c.args.receivers.now.items o.outboxes }) c.self.view_is
    (λ j. record {
      space = c.self.inside.reached.space;
      worker = c.self.inside.worker;
      nodes = c.self.inside.reached.nodes;
      ever = c.self.inside.reached.ever;
      outboxes = (ap (shown values) c.withdraw.ensures ∙ shown_withdrawn values c.args.receivers.now.items c.self.inside.outboxes) j;
      best = c.self.inside.best;
      expansions = c.self.inside.expansions;
    })
