use Rattle.std.proofs.Common.{◌≡◌, inl, inr, Some, sym, ap, ◌∙◌, subst}
use Rattle.std.proofs.lemmas.Bool.{not-true, not-false}
use Rattle.fdr.specs.Tasks.{FiniteDomainTask, ranges, is_goal_state}
use Rattle.closed.specs.Tables.{outcome_of, arrival, message_of}
use Rattle.owner_space.specs.Spaces.{SpaceOf}
use Rattle.owner.specs.Owned.{OwnerOf, space_of}
use Rattle.owner.specs.Successors.{ChangesNothing}
use Rattle.owner.proofs.Owning.{kept_is_own, boxes_in}
use Rattle.owner.proofs.holdings.Holdings.knows.Goals as goal

pub is_goal_form-requires-clause-form : goal.is_goal_form-requires-clause-form
is_goal_form-requires-clause-form g c =
    let task = c.task.ensures ∙ ap (λ (s : SpaceOf g.row.S.Denot). s.task) c.space-space.ensures in
    subst (λ (t : FiniteDomainTask). g.F.StateForm.IsForm (ranges t) c.args.message.now.state) (sym task) (c.knows.ensures.form c.if-not-knows.false)

pub is_goal_form-requires-clause-fits : goal.is_goal_form-requires-clause-fits
is_goal_form-requires-clause-fits g c =
    let task = c.task.ensures ∙ ap (λ (s : SpaceOf g.row.S.Denot). s.task) c.space-space.ensures in
    subst (λ (t : FiniteDomainTask). g.F.StateForm.Fits (ranges t)) (sym task) c.recall.ensures.fits

pub is_goal_form-requires-clause-layout : goal.is_goal_form-requires-clause-layout
is_goal_form-requires-clause-layout g c = c.layout.ensures ∙ ap (λ (t : FiniteDomainTask). ranges t) (sym c.task.ensures)

pub returns-clause-known : goal.returns-clause-known
returns-clause-known g c known =
    let o : OwnerOf g.row.S.Denot = record {
      space = c.self.inside.reached.space;
      worker = c.self.inside.worker;
      nodes = c.self.inside.reached.nodes;
      ever = c.self.inside.reached.ever;
      outboxes = boxes_in g.F.StateForm.values c.self.inside.outboxes c.self.inside.reached.space;
      best = c.self.inside.best;
      expansions = c.self.inside.expansions;
    } in
    let m = c.args.message.now in
    let task = c.task.ensures ∙ ap (λ (s : SpaceOf g.row.S.Denot). s.task) c.space-space.ensures in
    let kept = c.knows.ensures.known c.if-not-knows.false (Some m.parent) in
    subst (λ (x : OwnerOf g.row.S.Denot). ChangesNothing (space_of g.S.Spread.owner x) x.worker x.nodes (message_of (g.F.StateForm.values (ranges x.space.task)) m))
    c.self.view_is
    (record {
      own = kept_is_own (space_of g.S.Spread.owner o) o.worker o.nodes (arrival (g.F.StateForm.values (ranges o.space.task)) m) c.self.invariant.nodes kept;
      no_goal = (λ j. is_goal_state (sym task j) (g.F.StateForm.values (ranges (sym task j)) m.state)) ∙ (sym c.is_goal_form.ensures ∙ not-true _ known);
      kept = kept;
    })

pub returns-then-not-knows-clause-unknown : goal.returns-then-not-knows-clause-unknown
returns-then-not-knows-clause-unknown g c _ form =
    let m = c.args.message.now in
    let same : c.self.inside.reached.space ≡ c.args.self.now.space = ap (λ (o : OwnerOf g.row.S.Denot). o.space) c.self.view_is in
    inl (λ kept. c.knows.ensures.unknown c.if-not-knows.true
    (subst (λ (s : SpaceOf g.row.S.Denot). g.F.StateForm.IsForm (ranges s.task) m.state) (sym same) form) (Some m.parent)
    (ap (λ (o : OwnerOf g.row.S.Denot). outcome_of o.nodes (arrival (g.F.StateForm.values (ranges o.space.task)) m)) c.self.view_is ∙ kept))

pub returns-clause-unknown : goal.returns-clause-unknown
returns-clause-unknown g c unknown form =
    let m = c.args.message.now in
    let task = c.task.ensures ∙ (ap (λ (s : SpaceOf g.row.S.Denot). s.task) c.space-space.ensures
    ∙ ap (λ (o : OwnerOf g.row.S.Denot). o.space.task) c.self.view_is) in
    inr ((λ j. is_goal_state (sym task j) (g.F.StateForm.values (ranges (sym task j)) m.state)) ∙ (sym c.is_goal_form.ensures ∙ not-false _ unknown))
