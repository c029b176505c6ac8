use Rattle.validate.proofs.VerdictTheorem.{verdict_found}
use Rattle.validate.proofs.verdict.validate.Goals as goal

pub returns : goal.returns
returns c = verdict_found c.args.task.now c.args.plan.now c.verdict_of.result c.verdict_of.ensures
