use Rattle.std.proofs.Common.{inr}
use Rattle.optplan_optimal.specs.Faults.{fault_of_check}
use Rattle.optplan_optimal.specs.Answers.{IsRefusal}
use Rattle.optplan_optimal.proofs.Judgements.{err_as, refusal_of_check}
use Rattle.optplan_optimal.proofs.judging.judge_claim.Goals as goal

pub returns-in_err-certificate-clause-refused : goal.returns-in_err-certificate-clause-refused
returns-in_err-certificate-clause-refused g c = λ domain problem plan spelled claims.
    let e = c.in_err-certificate.field-0.0 in
    err_as c.from_residual.result (fault_of_check e) (IsRefusal domain problem plan c.args.cert.now) c.from_residual.ensures.1
    (refusal_of_check domain problem plan c.args.cert.now e (inr claims) (c.in_err-certificate.ensures.refused domain problem spelled))

pub returns-clause-answer : goal.returns-clause-answer
returns-clause-answer g c = λ domain problem plan spelled claims.
    c.with_claim.ensures.answer domain problem plan c.args.cert.now claims (c.in_ok-certificate.ensures.answer domain problem spelled)

pub returns-clause-guarantees : goal.returns-clause-guarantees
returns-clause-guarantees g c = λ plan well.
    c.with_claim.ensures.guarantees c.args.task.now plan (λ bound is. c.in_ok-certificate.ensures.bound bound well is)
