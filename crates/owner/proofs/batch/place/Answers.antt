use Rattle.std.proofs.Common.{◌≡◌, ◌+◌, false, add-one, sym, ap, ◌∙◌}
use Rattle.cost.specs.Distances.{Finite, distance_of, is_at_most}
use Rattle.fdr.specs.Tasks.{FiniteDomainTask, ranges, cost_of}
use Rattle.owner_theory.specs.Owners.{treat}
use Rattle.owner_space.specs.Spaces.{SpaceOf}
use Rattle.owner.specs.Owned.{space_of}
use Rattle.owner.specs.Batches.{pending}
use Rattle.owner.proofs.Passing.{same_some}
use Rattle.owner.proofs.batch.place.Goals as goal

pub returns-clause-treated : goal.returns-clause-treated
returns-clause-treated g c = λ nodes t leads.
    let h0 = c.args.holdings.now in
    let s = c.args.successor.now in
    let values = g.F.StateForm.values (ranges h0.space.task) in
    let task : c.task-task.result.now ≡ h0.space.task =
    c.task-task.ensures ∙ ap (λ (x : SpaceOf g.row.S.Denot). x.task) c.space.ensures in
    let finite : c.f_after-f.result ≡ Finite c.unwrap-f.result = c.get.ensures.value ∙ ap distance_of c.unwrap-f.ensures in
    let below : is_at_most c.args.bound (Finite c.unwrap-f.result) ≡ false =
    ap (is_at_most c.args.bound) (sym finite) ∙ sym c.if-is_within.ensures in
    let state : values c.in_ok-copy.field-0 ≡ t =
    c.in_ok-copy.ensures.values (ranges h0.space.task) c.requires.successor.form
    ∙ same_some (values s.state) t (sym c.requires.successor.leads ∙ leads) in
    let cost = c.rank_after-rank.ensures.cost ∙ ap (λ (T : FiniteDomainTask). c.args.next.rank.cost + cost_of T s.operator) task in
    let steps = c.rank_after-rank.ensures.steps ∙ add-one c.args.next.rank.steps in
    c.in_ok-put.ensures.treated c.args.bound nodes below
    ∙ (λ j. treat (space_of g.S.Spread.owner h0) h0.worker (pending g.F.StateForm.values c.args.bound nodes h0 c.args.batch.now) (record {
      state = state j;
      cost = cost j;
      steps = steps j;
      parent = record { worker = c.worker.ensures j; index = c.args.next.index; operator = s.operator };
    }))
