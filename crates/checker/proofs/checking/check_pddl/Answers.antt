use Rattle.cost.specs.Distances.{Infinite}
use Rattle.pddl_laws.proofs.GoalLaws.{spelled_well}
use Rattle.checker.proofs.Verdicts.{bound_is, none_is, if_ok_map}
use Rattle.checker.proofs.checking.check_pddl.Goals as goal

pub returns-clause-bound : goal.returns-clause-bound
returns-clause-bound g c = λ task bound spelled.
    let found = c.in_ok-task.ensures.found in
    if_ok_map _ _ c.check_for_task.result (λ v h accepted. bound_is c.args.domain.now c.args.problem.now _ task bound found spelled (h accepted))
    (c.check_for_task.ensures.bound bound (spelled_well c.args.domain.now c.args.problem.now _ found))

pub returns-clause-none : goal.returns-clause-none
returns-clause-none g c = λ task spelled.
    let found = c.in_ok-task.ensures.found in
    if_ok_map _ _ c.check_for_task.result (λ v h accepted. none_is task (bound_is c.args.domain.now c.args.problem.now _ task Infinite found spelled (h accepted)))
    (c.check_for_task.ensures.bound Infinite (spelled_well c.args.domain.now c.args.problem.now _ found))
