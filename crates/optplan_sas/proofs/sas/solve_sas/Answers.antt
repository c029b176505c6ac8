use Rattle.std.proofs.lemmas.Result.{err_from_is_err_and}
use Rattle.optplan_solver.specs.ThreadedSearches.{IsRefusedByThreads}
use Rattle.optplan_sas.proofs.Answering.{text_refused}
use Rattle.optplan_sas.proofs.sas.solve_sas.Goals as goal

pub returns-in_err-task-clause-refused : goal.returns-in_err-task-clause-refused
returns-in_err-task-clause-refused g c =
    let p = err_from_is_err_and c.from_residual.result c.from_residual.ensures.1 in
    rw (p.1, p.2) (text_refused c.args.sas.now (IsRefusedByThreads c.args.options.now (g.G.Gate.may_stop c.args.gate.now)) c.in_err-task.field-0.0 c.in_err-task.ensures.fault)

pub returns-in_err-solve_task-clause-refused : goal.returns-in_err-solve_task-clause-refused
returns-in_err-solve_task-clause-refused g c =
    let p = err_from_is_err_and c.from_residual-in_err-solve_task.result c.from_residual-in_err-solve_task.ensures.1 in
    rw (p.1, p.2) (c.in_ok-task.task, c.in_ok-task.ensures.found, c.in_err-solve_task.ensures.refused)
