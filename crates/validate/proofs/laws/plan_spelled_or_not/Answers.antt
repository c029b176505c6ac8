use Rattle.validate.proofs.PlanLaws.{plan_or_fault}
use Rattle.validate.proofs.laws.plan_spelled_or_not.Goals as goal

pub returns : goal.returns
returns c = plan_or_fault
