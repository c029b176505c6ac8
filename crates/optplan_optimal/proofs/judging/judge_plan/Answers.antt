use Rattle.optplan_optimal.specs.Faults.{fault_of_plan}
use Rattle.optplan_optimal.specs.Answers.{IsRefusal}
use Rattle.optplan_optimal.proofs.Judgements.{err_as, refusal_of_plan, spelled_valid, never_valid}
use Rattle.optplan_optimal.proofs.judging.judge_plan.Goals as goal

pub returns-in_err-steps-clause-refused : goal.returns-in_err-steps-clause-refused
returns-in_err-steps-clause-refused g c = λ domain problem spelled not_claimed.
    let e = c.in_err-steps.field-0.0 in
    err_as c.from_residual.result (fault_of_plan e) (IsRefusal domain problem c.args.plan.now c.args.cert.now) c.from_residual.ensures.1
    (refusal_of_plan domain problem c.args.plan.now c.args.cert.now c.args.task.now e spelled not_claimed c.in_err-steps.ensures.fault)

pub returns-in-Some-clause-answer : goal.returns-in-Some-clause-answer
returns-in-Some-clause-answer g c = λ domain problem spelled.
    c.judge_valid_plan.ensures.answer domain problem c.args.plan.now spelled
    (spelled_valid c.args.task.now c.args.plan.now c.in_ok-steps.steps c.in_ok-verdict.verdict c.in-Some.cost c.in_ok-steps.ensures.found c.in_ok-verdict.ensures c.in-Some.ensures.valid)

pub returns-in-Some-clause-refused : goal.returns-in-Some-clause-refused
returns-in-Some-clause-refused g c = λ domain problem spelled not_claimed.
    c.judge_valid_plan.ensures.refused domain problem c.args.plan.now spelled
    (spelled_valid c.args.task.now c.args.plan.now c.in_ok-steps.steps c.in_ok-verdict.verdict c.in-Some.cost c.in_ok-steps.ensures.found c.in_ok-verdict.ensures c.in-Some.ensures.valid)

pub returns-clause-guarantees : goal.returns-clause-guarantees
returns-clause-guarantees g c = λ well.
    never_valid c.args.task.now c.args.plan.now c.in_ok-steps.steps c.in_ok-verdict.verdict c.in_ok-steps.ensures.found c.in_ok-verdict.ensures c.in-None.ensures.not_valid
