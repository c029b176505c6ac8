use Rattle.validate.proofs.PlanLaws.{gives_plan}
use Rattle.validate.proofs.reading.read_plan.Goals as goal

pub returns-clause-only : goal.returns-clause-only
returns-clause-only c = gives_plan c.args.bytes.now c.plan.result c.plan.ensures.found c.plan.ensures.fault
