use Rattle.std.proofs.Common.{◌≤◌, sym, subst}
use Rattle.pddl_task.specs.Planning.{PlanningTask, Action, IsActionOf}
use Rattle.pddl.specs.Assembled.{task_in}
use Rattle.pddl.specs.Texts.{SpellTask}
use Rattle.pddl.proofs.Costs.{costs_within}
use Rattle.pddl.proofs.SmallCosts.{spelled_small}
use Rattle.pddl.proofs.TaskTexts.{one_task_is, spelled_not_refused_is}
use Rattle.pddl.proofs.reading.read_task.Goals as goal

spelled : (c : goal.After-drop-variables-inside-5) → SpellTask c.args.domain.now c.args.problem.now c.assembled.result
spelled c = subst (SpellTask c.args.domain.now c.args.problem.now) (sym c.assembled.ensures) c.in-Ok.ensures.found

pub returns-clause-only : goal.returns-clause-only
returns-clause-only c = λ t s. one_task_is c.args.domain.now c.args.problem.now c.assembled.result t (spelled c) s

pub returns-clause-small : goal.returns-clause-small
returns-clause-small c = spelled_small c.args.domain.now c.args.problem.now c.assembled.result (spelled c)

pub returns-clause-costs : goal.returns-clause-costs
returns-clause-costs c =
    subst (λ (t : PlanningTask). (a : Action) → IsActionOf t a → a.cost ≤ 2147483647) (sym c.assembled.ensures)
    (costs_within (task_in c.in-Ok.parts.domain c.in-Ok.parts.problem) _ c.in-Ok.ensures.places c.in-Ok.ensures.sums)

pub returns-in-Err-clause-never_refused : goal.returns-in-Err-clause-never_refused
returns-in-Err-clause-never_refused c = λ t s. spelled_not_refused_is c.args.domain.now c.args.problem.now t _ s c.in-Err.ensures.fault
