use Rattle.checker.proofs.Verdicts.{answer_is, refusal_is, if_ok_with, if_ok_each, if_err_map}
use Rattle.checker.proofs.checking.check_for_task.Goals as goal

pub returns-clause-answer : goal.returns-clause-answer
returns-clause-answer g c = λ domain problem spelled.
    if_ok_with _ _ _ c.answer.result
    (λ v planning verdict. answer_is c.args.task.now domain problem c.args.cert.now c.in_ok-certificate.certificate v spelled c.in_ok-certificate.ensures.found planning verdict)
    c.answer.ensures.planning (if_ok_each _ _ c.answer.result c.answer.ensures.verdict)

pub returns-clause-refused : goal.returns-clause-refused
returns-clause-refused g c = λ domain problem spelled.
    if_err_map _ _ c.answer.result
    (λ e h. refusal_is c.args.task.now domain problem c.args.cert.now c.in_ok-certificate.certificate e spelled c.in_ok-certificate.ensures.found h)
    c.answer.ensures.unjudged
