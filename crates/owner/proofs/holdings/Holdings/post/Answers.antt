use Rattle.std.proofs.Common.{◌≡◌, ◌++◌, ◌∷◌, [], sym, ap, ◌∙◌, subst, arith}
use Rattle.std.specs.Prelude.{slice_set}
use Rattle.fdr.specs.Tasks.{ranges}
use Rattle.owner_theory.specs.Owners.{list_at}
use Rattle.closed.specs.Tables.{message_of}
use Rattle.owner.specs.Owned.{OwnerOf, space_of, IsMessageTo}
use Rattle.owner.proofs.Owning.{boxes_in, posted_kept}
use Rattle.owner.proofs.Results.{pushed_room}
use Rattle.owner_outboxes.proofs.Showing.{shown_posted}
use Rattle.owner.proofs.holdings.Holdings.post.Goals as goal

pub invariant_of-self-2 : goal.invariant_of-self-2
invariant_of-self-2 g c =
    let values = g.F.StateForm.values (ranges c.self.inside.reached.space.task) in
    posted_kept g.S.Spread.owner _ (boxes_in g.F.StateForm.values c.post.new.self c.self.inside.reached.space) c.args.to
    (message_of values c.args.message) c.self.invariant
    (subst (λ (o : OwnerOf g.row.S.Denot). IsMessageTo (space_of g.S.Spread.owner o) c.args.to
    (message_of (g.F.StateForm.values (ranges o.space.task)) c.args.message)) (sym c.self.view_is) c.requires.fits)
    (shown_posted values c.self.inside.outboxes c.post.new.self c.args.to c.args.message c.in_ok-post.ensures.posted)

pub returns-clause-posted : goal.returns-clause-posted
returns-clause-posted g c =
    let values = g.F.StateForm.values (ranges c.self.inside.reached.space.task) in
    let boxes = boxes_in g.F.StateForm.values c.post.new.self c.self.inside.reached.space in
    let new : OwnerOf g.row.S.Denot = record {
      space = c.self.inside.reached.space;
      worker = c.self.inside.worker;
      nodes = c.self.inside.reached.nodes;
      ever = c.self.inside.reached.ever;
      outboxes = boxes;
      best = c.self.inside.best;
      expansions = c.self.inside.expansions;
    } in
    subst (λ (o : OwnerOf g.row.S.Denot). new ≡ record o {
      outboxes = slice_set o.outboxes c.args.to
          (list_at o.outboxes c.args.to ++ message_of (g.F.StateForm.values (ranges o.space.task)) c.args.message ∷ []);
    })
    c.self.view_is
    (λ j. record {
      space = c.self.inside.reached.space;
      worker = c.self.inside.worker;
      nodes = c.self.inside.reached.nodes;
      ever = c.self.inside.reached.ever;
      outboxes = shown_posted values c.self.inside.outboxes c.post.new.self c.args.to c.args.message c.in_ok-post.ensures.posted j;
      best = c.self.inside.best;
      expansions = c.self.inside.expansions;
    })

pub returns-clause-receivers : goal.returns-clause-receivers
returns-clause-receivers g c =
    pushed_room c.push-noted.result _ _ _ (c.push-noted.ensures.succeeds (omega (arith, c.in_ok-reserve.ensures.ok, c.reserve.ensures.len)))
    c.push-noted.ensures.items
    ∙ ap (λ l. l ++ c.args.to ∷ []) c.reserve.ensures.items
