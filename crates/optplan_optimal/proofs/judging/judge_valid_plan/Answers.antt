use Rattle.std.proofs.Common.{inl}
use Rattle.optplan_optimal.specs.Faults.{fault_of_check}
use Rattle.optplan_optimal.specs.Answers.{IsRefusal}
use Rattle.optplan_optimal.proofs.Judgements.{err_as, refusal_of_check}
use Rattle.optplan_optimal.proofs.judging.judge_valid_plan.Goals as goal

pub returns-in_err-certificate-clause-refused : goal.returns-in_err-certificate-clause-refused
returns-in_err-certificate-clause-refused g c = λ domain problem plan spelled valid.
    let e = c.in_err-certificate.field-0.0 in
    err_as c.from_residual.result (fault_of_check e) (IsRefusal domain problem plan c.args.cert.now) c.from_residual.ensures.1
    (refusal_of_check domain problem plan c.args.cert.now e (inl (c.args.cost, record { task = c.args.task.now; task_spelled = spelled; plan_spelled = valid }))
    (c.in_err-certificate.ensures.refused domain problem spelled))

pub returns-clause-answer : goal.returns-clause-answer
returns-clause-answer g c = λ domain problem plan spelled valid.
    c.with_valid_plan.ensures.answer domain problem plan c.args.cert.now (record { task = c.args.task.now; task_spelled = spelled; plan_spelled = valid })
    (c.in_ok-certificate.ensures.answer domain problem spelled)
