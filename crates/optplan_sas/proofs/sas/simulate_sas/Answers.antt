use Rattle.std.proofs.lemmas.Result.{err_from_is_err_and}
use Rattle.optplan_search.specs.Searches.{IsRefusedBySeed}
use Rattle.optplan_sas.proofs.Answering.{text_refused}
use Rattle.optplan_sas.proofs.sas.simulate_sas.Goals as goal

pub returns-in_err-task-clause-refused : goal.returns-in_err-task-clause-refused
returns-in_err-task-clause-refused g c =
    let p = err_from_is_err_and c.from_residual.result c.from_residual.ensures.1 in
    rw (p.1, p.2) (text_refused c.args.sas.now (IsRefusedBySeed c.args.options.now c.args.seed) c.in_err-task.field-0.0 c.in_err-task.ensures.fault)

pub returns-in_err-simulate_task-clause-refused : goal.returns-in_err-simulate_task-clause-refused
returns-in_err-simulate_task-clause-refused g c =
    let p = err_from_is_err_and c.from_residual-in_err-simulate_task.result c.from_residual-in_err-simulate_task.ensures.1 in
    rw (p.1, p.2) (c.in_ok-task.task, c.in_ok-task.ensures.found, c.in_err-simulate_task.ensures.refused)
