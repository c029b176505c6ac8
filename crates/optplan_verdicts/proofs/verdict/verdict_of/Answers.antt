use Rattle.optplan_verdicts.proofs.Reports.{refusal_of}
use Rattle.optplan_verdicts.proofs.verdict.verdict_of.Goals as goal

pub returns-in-Err-clause-refused : goal.returns-in-Err-clause-refused
returns-in-Err-clause-refused c =
    refusal_of c.args.domain.now c.args.problem.now c.args.plan.now c.task_fault.result (c.task_fault.ensures c.in-Err.ensures.fault)
