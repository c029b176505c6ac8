use Rattle.std.proofs.lemmas.Result.{err_from_is_err_and}
use Rattle.pddl_laws.proofs.GoalLaws.{spelled_well}
use Rattle.pddl_laws.proofs.KnownAtoms.{spelled_known}
use Rattle.optplan_pddl.proofs.preparing.prepare.Goals as goal

pub prepare_task-requires-clause-read : goal.prepare_task-requires-clause-read
prepare_task-requires-clause-read c =
    let known = spelled_known c.args.domain.now c.args.problem.now _ c.in_ok-task.ensures.found in
    record { small = c.in_ok-task.ensures.small; costs = c.in_ok-task.ensures.costs; initial = known.initial; goals = known.goals; added = known.added }

pub prepare_task-requires-clause-well : goal.prepare_task-requires-clause-well
prepare_task-requires-clause-well c = spelled_well c.args.domain.now c.args.problem.now _ c.in_ok-task.ensures.found

pub returns-in_err-task-clause-refused : goal.returns-in_err-task-clause-refused
returns-in_err-task-clause-refused c =
    let p = err_from_is_err_and c.from_residual.result c.from_residual.ensures.1 in
    rw (p.1, p.2) c.in_err-task.ensures.fault

pub returns-clause-prepared : goal.returns-clause-prepared
returns-clause-prepared c = c.prepare_task.ensures.prepared c.args.domain.now c.args.problem.now c.in_ok-task.ensures.found

pub returns-clause-refused : goal.returns-clause-refused
returns-clause-refused c = c.prepare_task.ensures.refused c.args.domain.now c.args.problem.now c.in_ok-task.ensures.found
