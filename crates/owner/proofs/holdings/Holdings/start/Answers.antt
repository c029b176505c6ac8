use Rattle.std.proofs.Common.{rules, ◌≡◌, ◌==◌, [], length, replicate, refl, subst, sym, ap, ◌∙◌}
use Rattle.cost.specs.Distances.{Infinite}
use Rattle.fdr.specs.Tasks.{FiniteDomainTask, ranges, IsState}
use Rattle.owner_theory.specs.Owners.{start_owner}
use Rattle.closed.specs.Tables.{padded}
use Rattle.owner_space.specs.Spaces.{searched}
use Rattle.owner_reached.specs.Queues.{ReachedOf}
use Rattle.owner.specs.Held.{IsOwner}
use Rattle.owner.specs.Outboxes.{shown}
use Rattle.owner.proofs.Owning.{boxes_in, start_kept, first_kept, none_kept, started_own, started_none}
use Rattle.owner_outboxes.proofs.Showing.{shown_none}
use Rattle.owner.proofs.holdings.Holdings.start.Goals as goal
use Rattle.owner.proofs.holdings.Holdings.start.Goals.{then-owner_of-worker+in_ok-form+in_ok-reach, else-owner_of-worker}

pub invariant_of-result-2 : goal.invariant_of-result-2
invariant_of-result-2 g c =
    let P : ReachedOf g.row.S.Denot → Type 0 = λ r. IsOwner g.S.Spread.owner (record { space = r.space; worker = c.args.worker; nodes = r.nodes; ever = r.ever; outboxes = boxes_in g.F.StateForm.values c.in_ok-empty.field-0 r.space; best = c.if-owner_of-worker.best; expansions = 0 }) in
    subst P (sym c.reached-2.view_is)
    (elim c.if-owner_of-worker.branch [
      | then-owner_of-worker+in_ok-form+in_ok-reach w ↦ subst P (sym w.reached-is)
          (start_kept g.S.Spread.owner c.args.space.now w.reach.new.self c.args.worker c.args.owners (boxes_in g.F.StateForm.values c.in_ok-empty.field-0 w.reach.new.self.space)
          c.if-owner_of-worker.best c.requires.worker
          (ap (shown (g.F.StateForm.values (ranges w.reach.new.self.space.task))) c.in_ok-empty.ensures ∙ shown_none (g.F.StateForm.values (ranges w.reach.new.self.space.task)) c.args.owners)
          (w.in_ok-reach.ensures.space ∙ ap (λ (r : ReachedOf g.row.S.Denot). r.space) c.in_ok-reached.ensures)
          (first_kept g.S.Spread.owner c.args.space.now c.args.worker c.args.owners c.initial-initial.result.now c.in_ok-reached.reached w.reach.new.self c.in_ok-reached.ensures w.in_ok-reach.ensures.nodes
          (subst (λ (t : FiniteDomainTask). IsState (ranges t) c.initial-initial.result.now) c.task-task.ensures c.initial-initial.ensures.state)
          (sym c.owner_of.ensures.value ∙ w.if-owner_of-worker.true)))
      | else-owner_of-worker w ↦ subst P (sym w.reached-is)
          (start_kept g.S.Spread.owner c.args.space.now c.in_ok-reached.reached c.args.worker c.args.owners (boxes_in g.F.StateForm.values c.in_ok-empty.field-0 c.in_ok-reached.reached.space)
          c.if-owner_of-worker.best c.requires.worker
          (ap (shown (g.F.StateForm.values (ranges c.in_ok-reached.reached.space.task))) c.in_ok-empty.ensures ∙ shown_none (g.F.StateForm.values (ranges c.in_ok-reached.reached.space.task)) c.args.owners)
          (ap (λ (r : ReachedOf g.row.S.Denot). r.space) c.in_ok-reached.ensures)
          (none_kept g.S.Spread.owner c.args.space.now c.args.worker c.args.owners c.in_ok-reached.reached c.in_ok-reached.ensures))
    ])

pub returns-clause-started : goal.returns-clause-started
returns-clause-started g c =
    let P : ReachedOf g.row.S.Denot → Type 0 = λ r. record {
      nodes = r.nodes;
      outboxes = boxes_in g.F.StateForm.values c.in_ok-empty.field-0 r.space;
      bound = Infinite;
      best = c.if-owner_of-worker.best;
    } ≡ start_owner (searched g.S.Spread.owner c.args.space.now c.args.owners)
    (g.S.Spread.owner c.args.space.now.spread c.args.space.now.task.initial c.args.owners == c.args.worker) in
    let empty : (r : ReachedOf g.row.S.Denot) → boxes_in g.F.StateForm.values c.in_ok-empty.field-0 r.space ≡ replicate c.args.owners [] =
    λ r. ap (shown (g.F.StateForm.values (ranges r.space.task))) c.in_ok-empty.ensures
    ∙ shown_none (g.F.StateForm.values (ranges r.space.task)) c.args.owners in
    let first : c.initial-initial.result.now ≡ c.args.space.now.task.initial =
    c.initial-initial.ensures.value ∙ ap (λ (t : FiniteDomainTask). t.initial) c.task-task.ensures in
    let owner_at : g.S.Spread.owner c.args.space.now.spread c.args.space.now.task.initial c.args.owners ≡ c.owner_of.result =
    ap (λ st. g.S.Spread.owner c.args.space.now.spread st c.args.owners) (sym first) ∙ sym c.owner_of.ensures.value in
    subst P (sym c.reached-2.view_is)
    (elim c.if-owner_of-worker.branch [
      | then-owner_of-worker+in_ok-form+in_ok-reach w ↦ subst P (sym w.reached-is)
          (started_own g.S.Spread.owner c.args.space.now c.args.worker c.args.owners c.initial-initial.result.now
          c.in_ok-reached.reached w.reach.new.self.nodes (boxes_in g.F.StateForm.values c.in_ok-empty.field-0 w.reach.new.self.space)
          c.if-owner_of-worker.best c.in_ok-reached.ensures w.in_ok-reach.ensures.nodes first (empty w.reach.new.self)
          (search rules)
          (owner_at ∙ w.if-owner_of-worker.true))
      | else-owner_of-worker w ↦ subst P (sym w.reached-is)
          (started_none g.S.Spread.owner c.args.space.now c.args.worker c.args.owners
          c.in_ok-reached.reached (boxes_in g.F.StateForm.values c.in_ok-empty.field-0 c.in_ok-reached.reached.space)
          c.if-owner_of-worker.best c.in_ok-reached.ensures (empty c.in_ok-reached.reached)
          (search rules)
          (λ own. w.if-owner_of-worker.false (sym owner_at ∙ own)))
    ])

pub returns-clause-ever : goal.returns-clause-ever
returns-clause-ever g c =
    let P : ReachedOf g.row.S.Denot → Type 0 = λ r. r.ever ≡ padded [] (length r.nodes) in
    subst P (sym c.reached-2.view_is)
    (elim c.if-owner_of-worker.branch [
      | then-owner_of-worker+in_ok-form+in_ok-reach w ↦ subst P (sym w.reached-is)
          (w.in_ok-reach.ensures.ever ∙ ap (λ (r : ReachedOf g.row.S.Denot). padded r.ever (length w.reach.new.self.nodes)) c.in_ok-reached.ensures)
      | else-owner_of-worker w ↦ subst P (sym w.reached-is) (subst P (sym c.in_ok-reached.ensures) refl)
    ])
