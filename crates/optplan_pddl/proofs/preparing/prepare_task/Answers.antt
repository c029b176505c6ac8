use Rattle.std.proofs.lemmas.Result.{err_from_is_err_and}
use Rattle.optplan_pddl.proofs.preparing.prepare_task.Goals as goal

pub returns-in_err-translated-clause-refused : goal.returns-in_err-translated-clause-refused
returns-in_err-translated-clause-refused c =
    let p = err_from_is_err_and c.from_residual.result c.from_residual.ensures.1 in
    λ domain problem spelled. rw (p.1, p.2) (c.args.task.now, spelled, c.in_err-translated.ensures.fault)

pub returns-in_err-wanted-clause-refused : goal.returns-in_err-wanted-clause-refused
returns-in_err-wanted-clause-refused c =
    let p = err_from_is_err_and c.from_residual-in_err-wanted.result c.from_residual-in_err-wanted.ensures.1 in
    λ domain problem spelled. rw (p.1, p.2) (c.args.task.now, spelled, tt)
