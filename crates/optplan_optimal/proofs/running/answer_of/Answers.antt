use Rattle.optplan_optimal.proofs.running.answer_of.Goals as goal

pub returns-in-Err-clause-refused : goal.returns-in-Err-clause-refused
returns-in-Err-clause-refused g c = c.fault_of.ensures c.args.plan.now c.args.cert.now c.in-Err.ensures.refused
