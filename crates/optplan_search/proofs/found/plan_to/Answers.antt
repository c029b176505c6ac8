use Rattle.std.proofs.Common.{◌≡◌, ◌∙◌, ◌≤◌, ◌<◌, ◌^◌, ℕ, List, length, get_or, sym, ap, subst, arith}
use Rattle.cost.specs.Distances.{Distance, Finite, ◌≤ᵈ◌}
use Rattle.fdr.specs.Tasks.{FiniteDomainTask, plan_cost}
use Rattle.owner.specs.Spaces.{SpaceOf}
use Rattle.owner.specs.Owned.{OwnerOf}
use Rattle.extract.proofs.Places.{at_below}
use Rattle.optplan_search.proofs.Ends.{best_taken, small_goal}
use Rattle.optplan_search.proofs.found.plan_to.Goals as goal

pub bounds-owners-worker : goal.bounds-owners-worker
bounds-owners-worker g c =
    subst (λ (os : List (OwnerOf _)). c.args.goal.0 < length os) (sym c.owners.ensures) (at_below c.args.joined.now.owners c.args.goal.0 c.requires.1.holder c.requires.1.owner)

pub offset_bounds-owners-worker : goal.offset_bounds-owners-worker
offset_bounds-owners-worker g c =
    let below = subst (λ (os : List (OwnerOf _)). c.args.goal.0 < length os) (sym c.owners.ensures) (at_below c.args.joined.now.owners c.args.goal.0 c.requires.1.holder c.requires.1.owner) in
    omega (arith, below)

pub cost_of_plan-cost-requires : goal.cost_of_plan-cost-requires
cost_of_plan-cost-requires g c =
    let at = c.requires.1 in
    let most = c.in_ok-plan.ensures.bound c.requires.0 at in
    let small = small_goal g.S.Spread.owner c.args.joined.now c.args.goal.0 c.args.goal.1 c.requires.0 c.index-owners-worker.result at
    (subst (λ (os : List (OwnerOf _)). c.index-owners-worker.result ≡ get_or os c.args.goal.0 c.index-owners-worker.result) c.owners.ensures c.index-owners-worker.is) c.recall-2.ensures.nodes in
    let same = ap (λ (t : FiniteDomainTask). plan_cost t c.deref.result.now) (c.task.ensures ∙ ap (λ (s : SpaceOf _). s.task) c.space.ensures)
    ∙ ap (plan_cost c.args.joined.now.space.task) c.deref.ensures.value in
    subst (λ (k : ℕ). k ≤ 2 ^ 62) (sym same) (omega (arith, most, small))

pub returns-clause-within : goal.returns-clause-within
returns-clause-within g c =
    let taken = best_taken g.S.Spread.owner c.args.joined.now c.recall.ensures.space c.recall.ensures.lawful c.args.goal.0 c.args.goal.1 c.requires in
    let most = c.in_ok-plan.ensures.bound c.requires.0 c.requires.1 in
    let same = c.cost_of_plan-cost.ensures ∙ ap (λ (t : FiniteDomainTask). plan_cost t c.deref.result.now) (c.task.ensures ∙ ap (λ (s : SpaceOf _). s.task) c.space.ensures)
    ∙ ap (plan_cost c.args.joined.now.space.task) c.deref.ensures.value in
    subst (λ (d : Distance). Finite c.cost_of_plan-cost.result ≤ᵈ d) (sym taken) (subst (λ (k : ℕ). k ≤ c.requires.0.cost) (sym same) most)

pub returns-clause-settled : goal.returns-clause-settled
returns-clause-settled g c = λ cost settled.
    c.cost_of_plan-cost.ensures ∙ ap (λ (t : FiniteDomainTask). plan_cost t c.deref.result.now) (c.task.ensures ∙ ap (λ (s : SpaceOf _). s.task) c.space.ensures)
    ∙ ap (plan_cost c.args.joined.now.space.task) c.deref.ensures.value ∙ c.in_ok-plan.ensures.cost cost settled
