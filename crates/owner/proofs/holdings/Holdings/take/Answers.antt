use Rattle.std.proofs.Common.{◌≡◌, length, sym, ap, ◌∙◌, subst, cond}
use Rattle.cost.specs.Distances.{Finite, lesser}
use Rattle.fdr.specs.Tasks.{FiniteDomainTask, ranges, is_goal_state}
use Rattle.owner_theory.specs.Owners.{took}
use Rattle.closed.specs.Tables.{padded}
use Rattle.owner_space.specs.Spaces.{SpaceOf}
use Rattle.owner.specs.Owned.{OwnerOf, space_of, under, IsMessageTo}
use Rattle.owner_reached.specs.Queues.{ReachedOf}
use Rattle.owner.specs.Held.{IsOwner, message_at}
use Rattle.owner.proofs.Owning.{boxes_in, taken_kept, taken_is}
use Rattle.owner.proofs.holdings.Holdings.take.Goals as goal

pub reach-requires-clause-form : goal.reach-requires-clause-form
reach-requires-clause-form g c =
    subst (λ (o : OwnerOf g.row.S.Denot). g.F.StateForm.IsForm (ranges o.space.task) c.args.form.now) (sym c.self.view_is) c.requires.form

pub reach-requires-clause-values : goal.reach-requires-clause-values
reach-requires-clause-values g c =
    subst (λ (o : OwnerOf g.row.S.Denot). g.F.StateForm.values (ranges o.space.task) c.args.form.now ≡ c.args.state.now) (sym c.self.view_is) c.requires.values

pub invariant_of-self : goal.invariant_of-self
invariant_of-self g c =
    subst (λ (r : ReachedOf g.row.S.Denot). IsOwner g.S.Spread.owner (record {
      space = r.space;
      worker = c.self.inside.worker;
      nodes = r.nodes;
      ever = r.ever;
      outboxes = boxes_in g.F.StateForm.values c.self.inside.outboxes r.space;
      best = c.self.inside.best;
      expansions = c.self.inside.expansions;
    }))
    (sym c.in_err-reach.ensures.unchanged) c.self.invariant

pub invariant_of-self-2 : goal.invariant_of-self-2
invariant_of-self-2 g c =
    taken_kept g.S.Spread.owner _ c.reach.new.self.space c.reach.new.self.nodes c.reach.new.self.ever
    (boxes_in g.F.StateForm.values c.self.inside.outboxes c.reach.new.self.space) c.best_with-self-inside.result c.args.state.now c.args.rank c.args.parent
    c.self.invariant
    (subst (λ (o : OwnerOf g.row.S.Denot). IsMessageTo (space_of g.S.Spread.owner o) o.worker (message_at c.args.state.now c.args.rank c.args.parent))
    (sym c.self.view_is) c.requires.message)
    c.in_ok-reach.ensures.space c.in_ok-reach.ensures.nodes (ap (boxes_in g.F.StateForm.values c.self.inside.outboxes) c.in_ok-reach.ensures.space)

pub returns-clause-taken : goal.returns-clause-taken
returns-clause-taken g c = λ bound.
    let o : OwnerOf g.row.S.Denot = record {
      space = c.self.inside.reached.space;
      worker = c.self.inside.worker;
      nodes = c.self.inside.reached.nodes;
      ever = c.self.inside.reached.ever;
      outboxes = boxes_in g.F.StateForm.values c.self.inside.outboxes c.self.inside.reached.space;
      best = c.self.inside.best;
      expansions = c.self.inside.expansions;
    } in
    let task = c.task.ensures ∙ ap (λ (s : SpaceOf g.row.S.Denot). s.task) (c.space.ensures ∙ c.in_ok-reach.ensures.space) in
    let best = c.best_with-self-inside.ensures
    ∙ ap (λ b. cond b (lesser o.best (Finite c.args.rank.cost)) o.best)
    (c.is_goal-is_goal.ensures ∙ ap (λ (t : FiniteDomainTask). is_goal_state t c.args.state.now) task) in
    taken_is g.S.Spread.owner o c.reach.new.self.space c.reach.new.self.nodes c.reach.new.self.ever
    (boxes_in g.F.StateForm.values c.self.inside.outboxes c.reach.new.self.space) c.best_with-self-inside.result bound c.args.state.now c.args.rank
    c.args.parent c.in_ok-reach.ensures.nodes (ap (boxes_in g.F.StateForm.values c.self.inside.outboxes) c.in_ok-reach.ensures.space) best
    ∙ ap (λ (x : OwnerOf g.row.S.Denot). took (space_of g.S.Spread.owner x) (under x bound) (message_at c.args.state.now c.args.rank c.args.parent))
    c.self.view_is

pub returns-clause-ever : goal.returns-clause-ever
returns-clause-ever g c =
    c.in_ok-reach.ensures.ever
    ∙ ap (λ (o : OwnerOf g.row.S.Denot). padded o.ever (length c.reach.new.self.nodes)) c.self.view_is
