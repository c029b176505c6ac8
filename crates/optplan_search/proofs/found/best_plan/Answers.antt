use Rattle.std.proofs.Common.{◌∙◌, None, sym, subst}
use Rattle.cost.specs.Distances.{Distance}
use Rattle.extract.specs.Ends.{IsBestGoal}
use Rattle.extract.specs.Bounds.{least_best}
use Rattle.optplan_search.specs.Findings.{IsBestSoFar}
use Rattle.optplan_search.proofs.Ends.{none_taken, best_taken, best_so_far, finite_apart}
use Rattle.optplan_search.proofs.found.best_plan.Goals as goal

pub returns-in_ok-plan_to-in-Some-clause-best : goal.returns-in_ok-plan_to-in-Some-clause-best
returns-in_ok-plan_to-in-Some-clause-best g c =
    let best = subst (IsBestGoal c.args.joined.now) c.in-Some.is c.in_ok-goal.ensures in
    best_so_far c.args.joined.now.space.task (least_best c.args.joined.now) c.in_ok-plan_to-in-Some.field-0 best.0.cost
    (best_taken g.S.Spread.owner c.args.joined.now c.recall.ensures.space c.recall.ensures.lawful c.in-Some.goal.0 c.in-Some.goal.1 best)
    c.in_ok-plan_to-in-Some.ensures.plan c.in_ok-plan_to-in-Some.ensures.within

pub returns-in-None-clause-best : goal.returns-in-None-clause-best
returns-in-None-clause-best g c =
    subst (λ (d : Distance). IsBestSoFar c.args.joined.now.space.task d None)
    (sym (none_taken g.S.Spread.owner c.args.joined.now c.recall.ensures.space c.recall.ensures.lawful (subst (IsBestGoal c.args.joined.now) c.in-None.is c.in_ok-goal.ensures))) tt

pub returns-in-None-clause-settled : goal.returns-in-None-clause-settled
returns-in-None-clause-settled g c = λ cost settled.
    absurd (finite_apart cost (settled.best
    ∙ none_taken g.S.Spread.owner c.args.joined.now c.recall.ensures.space c.recall.ensures.lawful (subst (IsBestGoal c.args.joined.now) c.in-None.is c.in_ok-goal.ensures)))
