use Rattle.std.proofs.Common.{Bool, List, length, sym, ap, ◌∙◌, subst}
use Rattle.owner_theory.specs.Owners.{Node}
use Rattle.openlist.specs.BucketLists.{all_entries}
use Rattle.closed.specs.Tables.{Table, padded, was_expanded}
use Rattle.closed.proofs.Ever.{expanded_padded}
use Rattle.owner_space.specs.declared.ties.Ties.{Ties}
use Rattle.owner_reached.specs.Queues.{AreQueued, IsQueue, ReachedOf, h_of}
use Rattle.owner_reached.proofs.Forms.{form_inside, f_inside, outcome_inside, nodes_seen}
use Rattle.owner_reached.proofs.Queues.{SameBits, queue_permuted, improve_queued, reach_queue, entries_below}
use Rattle.owner_reached.proofs.reached.Reached.reach_at.Goals as goal

pub invariant_of-self : goal.invariant_of-self
invariant_of-self g c = (
  c.self.invariant.0,
  queue_permuted c.self.inside.space.now.ties (h_of c.self.inside.space.now) _ c.self.inside.table.ever _ _ c.make_room.ensures.entries c.self.invariant.1,
)

pub invariant_of-self-in_err-reach_hinted : goal.invariant_of-self-in_err-reach_hinted
invariant_of-self-in_err-reach_hinted g c =
    let space = c.self.inside.space.now in
    let entries = all_entries c.make_room.new.list in
    let old = queue_permuted space.ties (h_of space) c.self.inside.table.nodes c.self.inside.table.ever _ entries c.make_room.ensures.entries c.self.invariant.1 in (
      ap (λ (t : Table). t.ranges) c.in_err-reach_hinted.ensures.unchanged ∙ c.self.invariant.0,
      subst (λ (t : Table). IsQueue space.ties (h_of space) t.nodes t.ever entries) (sym c.in_err-reach_hinted.ensures.unchanged) old,
    )

pub drop_stale-requires-clause-stored : goal.drop_stale-requires-clause-stored
drop_stale-requires-clause-stored g c =
    let h = h_of c.self.inside.space.now in
    let old = c.self.inside.table in
    let values = g.F.StateForm.values in
    let form = c.args.form.now in
    let state = values old.ranges form in
    let new = c.reach_hinted.new.self in
    let same : SameBits old.ever new.ever =
    λ i. ap (λ (bits : List Bool). was_expanded bits i) c.in_ok-reach_hinted.ensures.ever ∙ expanded_padded old.ever (length new.nodes) i in
    let (stored, queued) = improve_queued c.ties-ties.result h old.nodes old.ever new.ever _ _ _ state c.args.rank c.args.parent c.get-f.result
    c.args.outcome same
    (subst (λ (t : Ties). IsQueue t h old.nodes old.ever (all_entries c.self.inside.queue)) (sym c.ties-ties.ensures) c.self.invariant.1)
    c.make_room.ensures.entries (sym c.get-f.ensures.value ∙ f_inside values form c.args.rank c.args.parent _ _ old.ranges c.self.invariant.0 c.self.view_is _ c.requires.f) c.get-f.ensures.bound
    (outcome_inside values form c.args.rank c.args.parent _ _ old.ranges c.self.invariant.0 c.self.view_is _ c.requires.outcome)
    c.put_in.ensures.entries c.put_in.ensures.small in
    stored

pub drop_stale-requires-clause-within : goal.drop_stale-requires-clause-within
drop_stale-requires-clause-within g c =
    let h = h_of c.self.inside.space.now in
    let old = c.self.inside.table in
    let values = g.F.StateForm.values in
    let form = c.args.form.now in
    let state = values old.ranges form in
    let new = c.reach_hinted.new.self in
    let same : SameBits old.ever new.ever =
    λ i. ap (λ (bits : List Bool). was_expanded bits i) c.in_ok-reach_hinted.ensures.ever ∙ expanded_padded old.ever (length new.nodes) i in
    let (stored, queued) = improve_queued c.ties-ties.result h old.nodes old.ever new.ever _ _ _ state c.args.rank c.args.parent c.get-f.result
    c.args.outcome same
    (subst (λ (t : Ties). IsQueue t h old.nodes old.ever (all_entries c.self.inside.queue)) (sym c.ties-ties.ensures) c.self.invariant.1)
    c.make_room.ensures.entries (sym c.get-f.ensures.value ∙ f_inside values form c.args.rank c.args.parent _ _ old.ranges c.self.invariant.0 c.self.view_is _ c.requires.f) c.get-f.ensures.bound
    (outcome_inside values form c.args.rank c.args.parent _ _ old.ranges c.self.invariant.0 c.self.view_is _ c.requires.outcome)
    c.put_in.ensures.entries c.put_in.ensures.small in
    entries_below c.ties-ties.result h new.nodes new.ever (all_entries c.put_in.new.list)
    (subst (λ (ns : List Node). AreQueued c.ties-ties.result h ns new.ever (all_entries c.put_in.new.list)) (sym c.in_ok-reach_hinted.ensures.nodes) queued)

pub invariant_of-self-in-Better : goal.invariant_of-self-in-Better
invariant_of-self-in-Better g c =
    let h = h_of c.self.inside.space.now in
    let old = c.self.inside.table in
    let values = g.F.StateForm.values in
    let form = c.args.form.now in
    let state = values old.ranges form in
    let new = c.reach_hinted.new.self in
    let same : SameBits old.ever new.ever =
    λ i. ap (λ (bits : List Bool). was_expanded bits i) c.in_ok-reach_hinted.ensures.ever ∙ expanded_padded old.ever (length new.nodes) i in
    let (stored, queued) = improve_queued c.ties-ties.result h old.nodes old.ever new.ever _ _ _ state c.args.rank c.args.parent c.get-f.result
    c.args.outcome same
    (subst (λ (t : Ties). IsQueue t h old.nodes old.ever (all_entries c.self.inside.queue)) (sym c.ties-ties.ensures) c.self.invariant.1)
    c.make_room.ensures.entries (sym c.get-f.ensures.value ∙ f_inside values form c.args.rank c.args.parent _ _ old.ranges c.self.invariant.0 c.self.view_is _ c.requires.f) c.get-f.ensures.bound
    (outcome_inside values form c.args.rank c.args.parent _ _ old.ranges c.self.invariant.0 c.self.view_is _ c.requires.outcome)
    c.put_in.ensures.entries c.put_in.ensures.small in (
      c.in_ok-reach_hinted.ensures.ranges ∙ c.self.invariant.0,
      subst (λ (t : Ties). IsQueue t h new.nodes new.ever (all_entries c.drop_stale.new.list)) c.ties-ties.ensures
          (c.drop_stale.ensures h
          (subst (λ (ns : List Node). AreQueued c.ties-ties.result h ns new.ever (all_entries c.put_in.new.list)) (sym c.in_ok-reach_hinted.ensures.nodes) queued)),
    )

pub invariant_of-self-in_default : goal.invariant_of-self-in_default
invariant_of-self-in_default g c =
    let h = h_of c.self.inside.space.now in
    let old = c.self.inside.table in
    let values = g.F.StateForm.values in
    let form = c.args.form.now in
    let state = values old.ranges form in
    let new = c.reach_hinted.new.self in
    let same : SameBits old.ever new.ever =
    λ i. ap (λ (bits : List Bool). was_expanded bits i) c.in_ok-reach_hinted.ensures.ever ∙ expanded_padded old.ever (length new.nodes) i in (
      c.in_ok-reach_hinted.ensures.ranges ∙ c.self.invariant.0,
      subst (λ (t : Ties). IsQueue t h new.nodes new.ever (all_entries c.put_in.new.list)) c.ties-ties.ensures
          (subst (λ (ns : List Node). IsQueue c.ties-ties.result h ns new.ever (all_entries c.put_in.new.list)) (sym c.in_ok-reach_hinted.ensures.nodes)
          (reach_queue c.ties-ties.result h old.nodes old.ever new.ever _ _ _ state c.args.rank c.args.parent c.get-f.result c.args.outcome
          c.in_default.not-Better same
          (subst (λ (t : Ties). IsQueue t h old.nodes old.ever (all_entries c.self.inside.queue)) (sym c.ties-ties.ensures) c.self.invariant.1)
          c.make_room.ensures.entries (sym c.get-f.ensures.value ∙ f_inside values form c.args.rank c.args.parent _ _ old.ranges c.self.invariant.0 c.self.view_is _ c.requires.f) c.get-f.ensures.bound
          (outcome_inside values form c.args.rank c.args.parent _ _ old.ranges c.self.invariant.0 c.self.view_is _ c.requires.outcome)
          c.put_in.ensures.entries c.put_in.ensures.small)),
    )

pub returns-in-Better-clause-ever : goal.returns-in-Better-clause-ever
returns-in-Better-clause-ever g c =
    c.in_ok-reach_hinted.ensures.ever
    ∙ ap (λ (r : ReachedOf g.row.S.Denot). padded r.ever (length c.reach_hinted.new.self.nodes)) c.self.view_is

pub returns-in_default-clause-ever : goal.returns-in_default-clause-ever
returns-in_default-clause-ever g c =
    c.in_ok-reach_hinted.ensures.ever
    ∙ ap (λ (r : ReachedOf g.row.S.Denot). padded r.ever (length c.reach_hinted.new.self.nodes)) c.self.view_is

pub reach_hinted-requires-clause-form : goal.reach_hinted-requires-clause-form
reach_hinted-requires-clause-form g c =
    form_inside g.F.StateForm.values c.args.form.now c.args.rank c.args.parent _ _ c.self.inside.table.ranges c.self.invariant.0 c.self.view_is
    g.F.StateForm.IsForm c.requires.form

pub reach_hinted-requires-clause-outcome : goal.reach_hinted-requires-clause-outcome
reach_hinted-requires-clause-outcome g c =
    outcome_inside g.F.StateForm.values c.args.form.now c.args.rank c.args.parent _ _ c.self.inside.table.ranges c.self.invariant.0 c.self.view_is
    _ c.requires.outcome

pub returns-in-Better-clause-nodes : goal.returns-in-Better-clause-nodes
returns-in-Better-clause-nodes g c =
    nodes_seen g.F.StateForm.values c.args.form.now c.args.rank c.args.parent _ _ c.self.inside.table.ranges c.self.invariant.0 c.self.view_is
    _ c.in_ok-reach_hinted.ensures.nodes

pub returns-in_default-clause-nodes : goal.returns-in_default-clause-nodes
returns-in_default-clause-nodes g c =
    nodes_seen g.F.StateForm.values c.args.form.now c.args.rank c.args.parent _ _ c.self.inside.table.ranges c.self.invariant.0 c.self.view_is
    _ c.in_ok-reach_hinted.ensures.nodes
