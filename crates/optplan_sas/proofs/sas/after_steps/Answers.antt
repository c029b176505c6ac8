use Rattle.optplan_search.specs.Searches.{EndsAfter}
use Rattle.optplan_sas.proofs.Answering.{found_plans, answered}
use Rattle.optplan_sas.proofs.sas.after_steps.Goals as goal

pub answer_in-requires-clause-plans : goal.answer_in-requires-clause-plans
answer_in-requires-clause-plans g c =
    found_plans c.args.options.now.certificate c.certificate.result c.then_some-wanted.result c.then_some-wanted.ensures c.certificate.ensures
    c.args.task.now (EndsAfter c.args.options.now c.args.steps.now c.args.task.now) c.in_ok-found.found c.in_ok-found.ensures.found

pub returns-clause-answer : goal.returns-clause-answer
returns-clause-answer g c = λ sas spells.
    answered c.args.options.now.certificate c.certificate.result c.then_some-wanted.result c.then_some-wanted.ensures c.certificate.ensures
    sas c.args.task.now (EndsAfter c.args.options.now c.args.steps.now) c.in_ok-found.found c.in_ok-answer_in.field-0
    spells c.in_ok-found.ensures.found c.in_ok-answer_in.ensures
