use Rattle.optplan_verdicts.proofs.verdict.answer_of.Goals as goal

pub returns-in-Err-clause-refused : goal.returns-in-Err-clause-refused
returns-in-Err-clause-refused c = λ domain problem spelled.
    c.plan_fault.ensures domain problem c.args.plan.now c.args.task.now spelled (c.in-Err.ensures.fault)
