use Rattle.optplan_verdicts.proofs.run_check.check_of.Goals as goal

pub returns-in-Err-clause-refused : goal.returns-in-Err-clause-refused
returns-in-Err-clause-refused g c = c.check_fault.ensures c.args.cert.now c.in-Err.ensures.refused
