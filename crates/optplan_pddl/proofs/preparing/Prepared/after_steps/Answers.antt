use Rattle.std.proofs.lemmas.Result.{err_from_is_err_and}
use Rattle.optplan_search.specs.Searches.{EndsAfter, IsRefusedAfter}
use Rattle.optplan_search.specs.declared.fault.SearchFault.TheVariants.{OutOfMemory}
use Rattle.optplan_pddl.proofs.StepNames.{names_there}
use Rattle.optplan_pddl.proofs.Answering.{found_plans, answer_for, search_refused}
use Rattle.optplan_pddl.proofs.preparing.Prepared.after_steps.Goals as goal

pub answer_in-requires-clause-ready : goal.answer_in-requires-clause-ready
answer_in-requires-clause-ready g c = names_there c.requires.prepared.0 c.requires.prepared.1.0 c.requires.prepared.1.1.0 c.args.self c.requires.prepared.1.1.1

pub answer_in-requires-clause-plans : goal.answer_in-requires-clause-plans
answer_in-requires-clause-plans g c =
    found_plans c.requires.prepared.0 c.requires.prepared.1.0 c.requires.prepared.1.1.0 c.args.self c.requires.prepared.1.1.1 c.task.result.now c.task.ensures
    (EndsAfter c.args.options.now c.args.steps.now) c.in_ok-found.found c.in_ok-found.ensures.found

pub returns-clause-answer : goal.returns-clause-answer
returns-clause-answer g c = λ wanted domain problem prepared.
    answer_for wanted domain problem c.args.self prepared c.task.result.now c.task.ensures
    (EndsAfter c.args.options.now c.args.steps.now) c.in_ok-found.found c.in_ok-answer_in.field-0 c.in_ok-found.ensures.found c.in_ok-answer_in.ensures

pub returns-in_err-found-clause-refused : goal.returns-in_err-found-clause-refused
returns-in_err-found-clause-refused g c = λ wanted domain problem prepared.
    let p = err_from_is_err_and c.from_residual.result c.from_residual.ensures.1 in
    rw (p.1, p.2) (search_refused wanted domain problem c.args.self prepared c.task.result.now c.task.ensures (IsRefusedAfter c.args.options.now c.args.steps.now) c.in_err-found.field-0.0 c.in_err-found.ensures.refused)

pub returns-in_err-answer_in-clause-refused : goal.returns-in_err-answer_in-clause-refused
returns-in_err-answer_in-clause-refused g c = λ wanted domain problem prepared.
    let p = err_from_is_err_and c.from_residual-in_err-answer_in.result c.from_residual-in_err-answer_in.ensures.1 in
    rw (p.1, p.2) (search_refused wanted domain problem c.args.self prepared c.task.result.now c.task.ensures (IsRefusedAfter c.args.options.now c.args.steps.now) OutOfMemory (record {}))
